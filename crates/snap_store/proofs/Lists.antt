-- Lists, one element more and all of them.
use Rattle.std.proofs.Common.{◌≡◌, ℕ, zero, suc, ◌+◌, ◌<◌, ◌≤◌, Bool, true, false, ◌||◌, List, [], ◌∷◌, ◌++◌, length, take, get_or, map, refl, ap, sym, ◌∙◌, arith}
use Rattle.std.proofs.lemmas.List.{take_more, take_all, map-append}
use Rattle.std.specs.List.{list_any}
use Rattle.snap_content.proofs.Booleans.{or_nothing}

mapped_more : {X Y : Type 0} (f : X → Y) (xs : List X) (i : ℕ) (x : X) → i < length xs → x ≡ get_or xs i x
    → map f (take (i + 1) xs) ≡ map f (take i xs) ++ f x ∷ []
mapped_more f xs i x h is = ap (map f) (take_more xs i x h ∙ ap (λ y. take i xs ++ y ∷ []) (sym is)) ∙ map-append f (take i xs) (x ∷ [])

-- so far all of them, and now one more
pub mapped_next : {X Y : Type 0} (f : X → Y) (xs : List X) (i : ℕ) (x : X) (ys now : List Y) (y : Y) → i < length xs → x ≡ get_or xs i x
    → ys ≡ map f (take i xs) → y ≡ f x → now ≡ ys ++ y ∷ [] → now ≡ map f (take (i + 1) xs)
mapped_next f xs i x ys now y h is so_far made same =
    same ∙ ap (λ zs. zs ++ y ∷ []) so_far ∙ ap (λ z. map f (take i xs) ++ z ∷ []) made ∙ sym (mapped_more f xs i x h is)

or_assoc : (a b c : Bool) → a || (b || c) ≡ (a || b) || c
or_assoc true b c = refl
or_assoc false b c = refl

any_one_more : {X : Type 0} (test : X → Bool) (xs : List X) (x : X) → list_any test (xs ++ x ∷ []) ≡ list_any test xs || test x
any_one_more test [] x = or_nothing (test x)
any_one_more test (y ∷ xs) x = ap (λ b. test y || b) (any_one_more test xs x) ∙ or_assoc (test y) (list_any test xs) (test x)

pub none_more : {X : Type 0} (test : X → Bool) (xs : List X) (i : ℕ) (x : X) → i < length xs → x ≡ get_or xs i x
    → list_any test (take i xs) ≡ false → test x ≡ false → list_any test (take (i + 1) xs) ≡ false
none_more test xs i x h is none fails =
    ap (list_any test) (take_more xs i x h ∙ ap (λ y. take i xs ++ y ∷ []) (sym is)) ∙ any_one_more test (take i xs) x
    ∙ ap (λ b. b || test x) none ∙ fails

pub mapped_all : {X Y : Type 0} (f : X → Y) (xs : List X) (i : ℕ) → length xs ≤ i → map f (take i xs) ≡ map f xs
mapped_all f xs i h = ap (map f) (take_all i xs h)

pub none_at_all : {X : Type 0} (test : X → Bool) (xs : List X) (i : ℕ) → length xs ≤ i → list_any test (take i xs) ≡ false → list_any test xs ≡ false
none_at_all test xs i h none = sym (ap (list_any test) (take_all i xs h)) ∙ none

or_second : (a : Bool) → a || true ≡ true
or_second true = refl
or_second false = refl

-- one that passes is among them
any_at : {X : Type 0} (test : X → Bool) (xs : List X) (i : ℕ) (d : X) → i < length xs → test (get_or xs i d) ≡ true → list_any test xs ≡ true
any_at test [] i d h e = absurd (omega arith)
any_at test (x ∷ xs) zero d h e = ap (λ b. b || list_any test xs) e
any_at test (x ∷ xs) (suc i) d h e = ap (λ b. test x || b) (any_at test xs i d (omega arith) e) ∙ or_second (test x)

pub any_here : {X : Type 0} (test : X → Bool) (xs : List X) (i : ℕ) (x : X) → i < length xs → x ≡ get_or xs i x → test x ≡ true → list_any test xs ≡ true
any_here test xs i x h is e = any_at test xs i x h (sym (ap test is) ∙ e)
