-- Trees that stand twice in a list.
use Rattle.snap_explain_values.proofs.Prelude.{◌≡◌, ◌||◌, ◌<◌, ℕ, zero, suc, Bool, true, false, List, [], ◌∷◌, ◌++◌, Some, slice_get, refl, sym, ap, ◌∙◌, arith, list_any-append, is_same, stands_in, has_twice}
use Rattle.snap_explain_values.proofs.Tests.{or_second}
use Rattle.snap_explain_values.proofs.SameTrees.{equal_of_same, same_itself, same_turned}
use Rattle.snap_content.specs.Tree as t

regrouped : (a s b h : Bool) → ((a || (s || false)) || (b || h)) ≡ ((s || b) || (a || h))
regrouped true true b h = refl
regrouped true false true h = refl
regrouped true false false h = refl
regrouped false true b h = refl
regrouped false false true h = refl
regrouped false false false h = refl

-- one more tree
pub twice_push : (ts : List t.Tree) (a : t.Tree) → has_twice (ts ++ a ∷ []) ≡ (stands_in a ts || has_twice ts)
twice_push [] a = refl
twice_push (x ∷ xs) a =
    ap (λ b. b || has_twice (xs ++ a ∷ [])) (list_any-append (is_same x) xs (a ∷ []) ∙ ap (λ b. stands_in x xs || (b || false)) (same_turned x a))
    ∙ ap (λ b. (stands_in x xs || (is_same a x || false)) || b) (twice_push xs a) ∙ regrouped (stands_in x xs) (is_same a x) (stands_in a xs) (has_twice xs)

-- where it stands
record Stands (a : t.Tree) (ts : List t.Tree) : Type 0 where
  place : ℕ
  is : slice_get ts place ≡ Some a

place_of : (a : t.Tree) (ts : List t.Tree) → stands_in a ts ≡ true → Stands a ts
place_of a [] e = absurd (cc e)
place_of a (x ∷ xs) e = by (is_same a x) refl e (λ h. place_of a xs h)
  where
    by : (b : Bool) → is_same a x ≡ b → (b || stands_in a xs) ≡ true → (stands_in a xs ≡ true → Stands a xs) → Stands a (x ∷ xs)
    by true s h later = record { place = zero; is = ap Some (sym (equal_of_same a x s)) }
    by false s h later = let p = later h in record { place = suc p.place; is = p.is }

stands_at : (a : t.Tree) (ts : List t.Tree) (i : ℕ) → slice_get ts i ≡ Some a → stands_in a ts ≡ true
stands_at a [] i e = absurd (cc e)
stands_at a (x ∷ xs) zero e =
    let same : x ≡ a = cc e in
    ap (λ y. is_same a y || stands_in a xs) same ∙ ap (λ b. b || stands_in a xs) (same_itself a)
stands_at a (x ∷ xs) (suc i) e = or_second (is_same a x) (stands_in a xs) (stands_at a xs i e)

-- two places that hold one tree
abbrev pub TwoPlaces : List t.Tree → Type 0
TwoPlaces ts = (i : ℕ) × (j : ℕ) × (a : t.Tree) × (i < j) × (slice_get ts i ≡ Some a) × (slice_get ts j ≡ Some a)

pub two_places : (ts : List t.Tree) → has_twice ts ≡ true → TwoPlaces ts
two_places [] e = absurd (cc e)
two_places (x ∷ xs) e = by (stands_in x xs) refl e (λ h. two_places xs h)
  where
    by : (b : Bool) → stands_in x xs ≡ b → (b || has_twice xs) ≡ true → (has_twice xs ≡ true → TwoPlaces xs) → TwoPlaces (x ∷ xs)
    by true s h later = let p = place_of x xs s in (zero, suc p.place, x, omega arith, refl, p.is)
    by false s h later = let p = later h in (suc p.0, suc p.1, p.2, omega arith, p.4, p.5)

pub twice_at : (ts : List t.Tree) (i j : ℕ) (a : t.Tree) → i < j → slice_get ts i ≡ Some a → slice_get ts j ≡ Some a → has_twice ts ≡ true
twice_at [] i j a h e f = absurd (cc e)
twice_at (x ∷ xs) i zero a h e f = absurd (omega arith)
twice_at (x ∷ xs) zero (suc j) a h e f =
    let same : x ≡ a = cc e in
    ap (λ b. b || has_twice xs) (ap (λ y. stands_in y xs) same ∙ stands_at a xs j f)
twice_at (x ∷ xs) (suc i) (suc j) a h e f = or_second (stands_in x xs) (has_twice xs) (twice_at xs i j a (omega arith) e f)

-- what stands twice in the first of them
pub twice_beginning : (xs ys : List t.Tree) → has_twice xs ≡ true → has_twice (xs ++ ys) ≡ true
twice_beginning [] ys e = absurd (cc e)
twice_beginning (x ∷ xs) ys e = by (stands_in x xs) refl e (λ h. twice_beginning xs ys h)
  where
    by : (b : Bool) → stands_in x xs ≡ b → (b || has_twice xs) ≡ true → (has_twice xs ≡ true → has_twice (xs ++ ys) ≡ true) → has_twice ((x ∷ xs) ++ ys) ≡ true
    by true s h later = ap (λ b. b || has_twice (xs ++ ys)) (list_any-append (is_same x) xs ys ∙ ap (λ b. b || stands_in x ys) s)
    by false s h later = or_second (stands_in x (xs ++ ys)) (has_twice (xs ++ ys)) (later h)
