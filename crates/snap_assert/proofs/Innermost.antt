-- The innermost block is the last one.
use Rattle.std.proofs.Common.{◌≡◌, ◌-◌, ◌<◌, ℕ, List, [], ◌∷◌, ◌++◌, length, get_or, take, map, reverse, refl, sym, ap, ◌∙◌, arith}
use Rattle.std.proofs.Math.ListN.{set}
use Rattle.std.proofs.lemmas.List.{reverse-append, reverse-reverse, length-append, map-append}
use Rattle.std.proofs.Math.Seq.{set-append_seam, get_or-append_seam, take-append_seam}
use Rattle.std.specs.BTreeMap.{insert_entry}
use Rattle.snap_store.specs.declared.contents.SnapshotContents.{SnapshotContents}
use Rattle.snap_assert.specs.Session.{Block, BlockKey, block_cmp, put_in}

as_reverse : {A : Type 0} (xs ys : List A) → reverse xs ≡ ys → xs ≡ reverse ys
as_reverse xs ys e = sym (reverse-reverse xs) ∙ ap reverse e

-- the parts of a list that is not empty
pub record IsEnded {A : Type 0} (xs : List A) : Type 0 where
  pub front : List A
  pub last : A
  pub is : xs ≡ front ++ last ∷ []

by_reverse : {A : Type 0} (xs ys : List A) → reverse xs ≡ ys → 0 < length xs → IsEnded xs
by_reverse xs [] e h = absurd (omega (arith, ap length (as_reverse xs [] e), h))
by_reverse xs (y ∷ outer) e h = record { front = reverse outer; last = y; is = as_reverse xs (y ∷ outer) e ∙ reverse-append (y ∷ []) outer }

ended : {A : Type 0} (xs : List A) (n : ℕ) → length xs ≡ n → 0 < n → IsEnded xs
ended xs n len h = by_reverse xs (reverse xs) refl (omega (arith, len, h))

front_length : {A : Type 0} (xs : List A) (n : ℕ) → length xs ≡ n → (e : IsEnded xs) → length e.front ≡ n - 1
front_length xs n len e = omega (arith, len, ap length e.is, length-append e.front (e.last ∷ []))

reversed_end : {A B : Type 0} (f : A → B) (front : List A) (last : A) → reverse (map f (front ++ last ∷ [])) ≡ f last ∷ reverse (map f front)
reversed_end f front last = ap reverse (map-append f front (last ∷ [])) ∙ reverse-append (map f front) (f last ∷ [])

pub innermost : {A B : Type 0} (f : A → B) (xs : List A) (n : ℕ) (d : A) → length xs ≡ n → 0 < n → reverse (map f xs) ≡ f (get_or xs (n - 1) d) ∷ reverse (map f (take (n - 1) xs))
innermost f xs n d len h =
    let e = ended xs n len h in
    let k = front_length xs n len e in
    ap (λ l. reverse (map f l)) e.is ∙ reversed_end f e.front e.last
    ∙ ap (λ x. f x ∷ reverse (map f e.front)) (sym (ap (λ l. get_or l (n - 1) d) e.is ∙ ap (λ i. get_or (e.front ++ e.last ∷ []) i d) (sym k) ∙ get_or-append_seam e.front e.last [] d))
    ∙ ap (λ l. f (get_or xs (n - 1) d) ∷ reverse (map f l)) (sym (ap (take (n - 1)) e.is ∙ ap (λ i. take i (e.front ++ e.last ∷ [])) (sym k) ∙ take-append_seam e.front (e.last ∷ [])))

pub changed : {A B : Type 0} (f : A → B) (xs : List A) (n : ℕ) (x : A) → length xs ≡ n → 0 < n → reverse (map f (set xs (n - 1) x)) ≡ f x ∷ reverse (map f (take (n - 1) xs))
changed f xs n x len h =
    let e = ended xs n len h in
    let k = front_length xs n len e in
    ap (λ l. reverse (map f (set l (n - 1) x))) e.is
    ∙ ap (λ i. reverse (map f (set (e.front ++ e.last ∷ []) i x))) (sym k)
    ∙ ap (λ l. reverse (map f l)) (set-append_seam e.front e.last [] x) ∙ reversed_end f e.front x
    ∙ ap (λ l. f x ∷ reverse (map f l)) (sym (ap (take (n - 1)) e.is ∙ ap (λ i. take i (e.front ++ e.last ∷ [])) (sym k) ∙ take-append_seam e.front (e.last ∷ [])))

-- a block that was written as it was
pub stays_kept : {A B : Type 0} (f : A → B) (xs : List A) (n : ℕ) (held now : A) → length xs ≡ n → 0 < n → held ≡ get_or xs (n - 1) held → f now ≡ f held
    → reverse (map f (set xs (n - 1) now)) ≡ reverse (map f xs)
stays_kept f xs n held now len h is same =
    changed f xs n now len h ∙ ap (λ b. b ∷ reverse (map f (take (n - 1) xs))) (same ∙ ap f is) ∙ sym (innermost f xs n held len h)

-- the innermost block with one more entry
pub is_kept : {A : Type 0} (f : A → Block) (xs : List A) (n : ℕ) (held now : A) (key : BlockKey) (contents : SnapshotContents) → length xs ≡ n → 0 < n → held ≡ get_or xs (n - 1) held
    → f now ≡ insert_entry block_cmp (f held) key contents → reverse (map f (set xs (n - 1) now)) ≡ put_in key contents (reverse (map f xs))
is_kept f xs n held now key contents len h is added =
    changed f xs n now len h ∙ ap (λ b. b ∷ reverse (map f (take (n - 1) xs))) (added ∙ ap (λ x. insert_entry block_cmp (f x) key contents) is)
    ∙ sym (ap (put_in key contents) (innermost f xs n held len h))
