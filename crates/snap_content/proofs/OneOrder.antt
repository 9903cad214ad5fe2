-- A stable sort by keys has one outcome, and what is sorted is sorted to itself.
use Rattle.snap_content.proofs.Prelude.{◌≡◌, ℕ, suc, ◌+◌, ◌<◌, ◌≤◌, Bool, true, false, cond, not, ◌&&◌, List, [], ◌∷◌, filter, get_or, length, refl, sym, ap, ◌∙◌, subst, arith, add-one, All-cons, All-head, All-tail, IsPermutation-refl, ranks_by, sorted_far, tied_itself, IsStrictWeakOrder, All, IsSortedBy, ties, is_lt, key_total, Entry, InKeyOrder}
use Rattle.snap_content.proofs.KeyOrdered.{is_before}

weak : IsStrictWeakOrder is_before
weak = ranks_by key_total (λ e. e.0)

-- not before, as the first of a list that ascends
abbrev NotBefore : Entry → Entry → Type 0
NotBefore x z = is_before z x ≡ false

not_itself : (x : Entry) → NotBefore x x
not_itself x = ap is_lt (tied_itself key_total x.0)

tied_self : (x : Entry) → ties is_before x x ≡ true
tied_self x = ap (λ b. not b && not b) (not_itself x)

after_first : (x : Entry) (xs : List Entry) → IsSortedBy is_before (x ∷ xs) → All (NotBefore x) xs
after_first x xs up k d small = sorted_far is_before weak (x ∷ xs) up 0 (suc k) d (omega arith) (omega arith)

sorted_tail : (x : Entry) (xs : List Entry) → IsSortedBy is_before (x ∷ xs) → IsSortedBy is_before xs
sorted_tail x xs up k d low high =
    ap (λ n. is_before (get_or (x ∷ xs) n d) (get_or xs k d)) (sym (add-one (k + 1))) ∙ ap (λ n. is_before (get_or (x ∷ xs) ((k + 1) + 1) d) (get_or (x ∷ xs) n d)) (sym (add-one k))
    ∙ up (k + 1) d (omega arith) (omega arith)

-- where x is first among those that pass, and nothing is before y, x is not before y
passes_cases : (b : Bool) (y x z : Entry) (zs more : List Entry) → NotBefore y z → (zs ≡ x ∷ more → NotBefore y x) → cond b (z ∷ zs) zs ≡ x ∷ more → NotBefore y x
passes_cases true y x z zs more n later e = let same : z ≡ x = cc in subst (NotBefore y) same n
passes_cases false y x z zs more n later e = later e

first_passes : (p : Entry → Bool) (y x : Entry) (zs more : List Entry) → All (NotBefore y) zs → filter p zs ≡ x ∷ more → NotBefore y x
first_passes p y x [] more n e = absurd (cc)
first_passes p y x (z ∷ zs) more n e =
    passes_cases (p z) y x z (filter p zs) more (All-head (NotBefore y) z zs n) (first_passes p y x zs more (All-tail (NotBefore y) z zs n)) e

-- those that tie with the first of a list
with_first : (x : Entry) (xs : List Entry) → filter (ties is_before x) (x ∷ xs) ≡ x ∷ filter (ties is_before x) xs
with_first x xs = ap (λ b. cond b (x ∷ filter (ties is_before x) xs) (filter (ties is_before x) xs)) (tied_self x)

same_rest : (b : Bool) (x : Entry) (xs ys : List Entry) → cond b (x ∷ xs) xs ≡ cond b (x ∷ ys) ys → xs ≡ ys
same_rest true x xs ys e = cc
same_rest false x xs ys e = e

abbrev SameTies : List Entry → List Entry → Type 0
SameTies xs ys = (z : Entry) → filter (ties is_before z) xs ≡ filter (ties is_before z) ys

module _ (x y : Entry) (xs ys : List Entry) (up : IsSortedBy is_before (x ∷ xs)) (rise : IsSortedBy is_before (y ∷ ys)) (same : SameTies (x ∷ xs) (y ∷ ys)) where
  first_not : NotBefore y x
  first_not = first_passes (ties is_before x) y x (y ∷ ys) (filter (ties is_before x) xs) (All-cons (NotBefore y) y ys (not_itself y) (after_first y ys rise)) (sym (same x) ∙ with_first x xs)

  second_not : NotBefore x y
  second_not = first_passes (ties is_before y) x y (x ∷ xs) (filter (ties is_before y) ys) (All-cons (NotBefore x) x xs (not_itself x) (after_first x xs up)) (same y ∙ with_first y ys)

  tied : ties is_before x y ≡ true
  tied = ap (λ b. not b && not (is_before y x)) first_not ∙ ap (λ b. not false && not b) second_not

  same_first : x ≡ y
  same_first =
      let e : x ∷ filter (ties is_before x) xs ≡ y ∷ filter (ties is_before x) ys
      = sym (with_first x xs) ∙ same x ∙ ap (λ b. cond b (y ∷ filter (ties is_before x) ys) (filter (ties is_before x) ys)) tied in cc

  same_later : SameTies xs ys
  same_later z = same_rest (ties is_before z y) y (filter (ties is_before z) xs) (filter (ties is_before z) ys)
      (subst (λ f. cond (ties is_before z f) (f ∷ filter (ties is_before z) xs) (filter (ties is_before z) xs) ≡ filter (ties is_before z) (y ∷ ys)) same_first (same z))

one_list : (xs ys : List Entry) → IsSortedBy is_before xs → IsSortedBy is_before ys → SameTies xs ys → xs ≡ ys
one_list [] [] up rise same = refl
one_list [] (y ∷ ys) up rise same = let e : [] ≡ y ∷ filter (ties is_before y) ys = same y ∙ with_first y ys in absurd (cc)
one_list (x ∷ xs) [] up rise same = let e : [] ≡ x ∷ filter (ties is_before x) xs = sym (same x) ∙ with_first x xs in absurd (cc)
one_list (x ∷ xs) (y ∷ ys) up rise same =
    ap (λ z. z ∷ xs) (same_first x y xs ys up rise same) ∙ ap (λ zs. y ∷ zs) (one_list xs ys (sorted_tail x xs up) (sorted_tail y ys rise) (same_later x y xs ys up rise same))

pub one_order : (old new other : List Entry) → InKeyOrder old new → InKeyOrder old other → new ≡ other
one_order old new other p q = one_list new other p.ascends q.ascends (λ x. p.keeps_ties x ∙ sym (q.keeps_ties x))

pub order_settles : (old new again : List Entry) → InKeyOrder old new → InKeyOrder new again → again ≡ new
order_settles old new again p q = one_order new again new q (record { same_entries = IsPermutation-refl new; ascends = p.ascends; keeps_ties = λ x. refl })

-- no later entry is before an earlier one
pub ascends_far : (old new : List Entry) → InKeyOrder old new → (i j : ℕ) (d : Entry) → i ≤ j → j < length new → is_before (get_or new j d) (get_or new i d) ≡ false
ascends_far old new p i j d low high = sorted_far is_before weak new p.ascends i j d low high
