-- What a simple key and its colon need.
use Rattle.snap_parse_laws.proofs.Prelude.{◌≡◌, ℕ, suc, ◌+◌, List, [], ◌∷◌, ◌++◌, true, false, refl, arith, Some, Option, nat_lt, length, min, length-append, nat_tests, slice_index, insert, is_blank_or_end, no_gap, Mark, Place, mark_of, Plain, plain, Token, kept, ends, is_deeper, SimpleKey, here}
use Rattle.std.proofs.Math.Seq.{take-append_seam, drop-append_seam}

-- a plain scalar ends before a colon
pub plain-colon : (indent : Option ℕ) (cs : List ℕ) (i l j : ℕ) (text : List ℕ) → is_blank_or_end (slice_index cs 0) ≡ true
    → plain indent false no_gap text (58 ∷ cs) (here (58 ∷ cs) i l j) ≡ Some (record { text = text; is_broken = false; place = here (58 ∷ cs) i l j })
plain-colon indent cs i l j text blank = rw blank refl

-- what stands before the key's place stays before what is put there
abbrev pub with_at : List ℕ → List ℕ → ℕ → ℕ → ℕ → Plain
with_at text rest i l j = record { text = text; is_broken = false; place = here (58 ∷ rest) i l j }

pub insert-at : (b x : List Token) (t : Token) → insert (b ++ x) (min (length b) (length (b ++ x))) t ≡ b ++ (t ∷ x)
insert-at b x t =
    let e : min (length b) (length (b ++ x)) ≡ length b = simp length-append (omega arith) in
    rw (e, take-append_seam b x, drop-append_seam b x) refl

-- the key that begins at a place
abbrev pub key_at : Place → List Token → SimpleKey
key_at p h = record { place = length h; required = false; mark = mark_of p }

-- the columns stay where a key ends
pub record Keeps (os : List ℕ) (j : ℕ) : Type 0 where
  pub kept : (n : ℕ) → kept (Some (j + n)) os ≡ os
  pub ends : (m : Mark) (n : ℕ) → ends m (Some (j + n)) os ≡ []

pub keeps-deeper : (os : List ℕ) (j : ℕ) → is_deeper j os ≡ true → Keeps os j
keeps-deeper [] j h = record { kept = λ n. refl; ends = λ m n. refl }
keeps-deeper (o ∷ os) j h = record {
  kept = λ n. let e : nat_lt (j + n) o ≡ false = grind (arith, nat_tests) in rw e refl;
  ends = λ m n. let e : nat_lt (j + n) o ≡ false = grind (arith, nat_tests) in rw e refl;
}

pub keeps-level : (os : List ℕ) (j : ℕ) → Keeps (j ∷ os) j
keeps-level os j = record {
  kept = λ n. let e : nat_lt (j + n) j ≡ false = grind (arith, nat_tests) in rw e refl;
  ends = λ m n. let e : nat_lt (j + n) j ≡ false = grind (arith, nat_tests) in rw e refl;
}

pub key-place : (i j : ℕ) (text rest : List ℕ) (w : List ℕ) (l : ℕ)
    → with_at text rest (i + 1 + length w) l (j + 1 + length w) ≡ with_at text rest (i + suc (length w)) l (j + suc (length w))
key-place i j text rest w l =
    let e : i + 1 + length w ≡ i + suc (length w) = omega arith in
    let f : j + 1 + length w ≡ j + suc (length w) = omega arith in
    rw (e, f) refl
