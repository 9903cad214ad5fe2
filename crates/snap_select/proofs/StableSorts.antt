-- A stable sort has one outcome: the list in order.
use Rattle.snap_select.proofs.Prelude.{◌≡◌, zero, suc, ◌+◌, ◌<◌, Bool, true, false, cond, not, ◌&&◌, List, [], ◌∷◌, map, filter, length, refl, sym, ap, ◌∙◌, subst, arith, add-one, inl, inr, ◌⊎◌, ⊤, both_ways, length-map, get_or-map, ranks_by, sorted_far, tied_itself, IsStrictWeakOrder, IsTotalOrder, All, put_in, ordered, cond_both}
use Rattle.std.proofs.lemmas.List.Elements.{All-filter, All-cons, All-head, filter_agree}
use Rattle.std.specs.List.Sorted.{IsSortedBy, IsStableBy, ties}
use Rattle.std.specs.declared.cmp.Ordering.{Ordering}
use Rattle.std.specs.declared.cmp.Ordering.TheVariants.{Equal}
use Rattle.std.specs.Ordering.{is_lt, ordering_reverse}
use Rattle.snap_content.proofs.KeyOrdered.{neither}

abbrev pub is_before : {Y : Type 0} → (Y → Y → Ordering) → Y → Y → Bool
is_before cmp x y = is_lt (cmp x y)

module _ {Y : Type 0} (cmp : Y → Y → Ordering) (total : IsTotalOrder cmp) where
  weak : IsStrictWeakOrder (is_before cmp)
  weak = ranks_by total (λ y. y)

  -- not before, as the first of a list that ascends
  abbrev NotBefore : Y → Y → Type 0
  NotBefore x z = is_before cmp z x ≡ false

  not_itself : (x : Y) → NotBefore x x
  not_itself x = ap is_lt (tied_itself total x)

  tied_self : (x : Y) → ties (is_before cmp) x x ≡ true
  tied_self x = ap (λ b. not b && not b) (not_itself x)

  after_first : (x : Y) (xs : List Y) → IsSortedBy (is_before cmp) (x ∷ xs) → All (NotBefore x) xs
  after_first x xs up k d small = sorted_far (is_before cmp) weak (x ∷ xs) up 0 (suc k) d (omega arith) (omega arith)

  sorted_tail : (x : Y) (xs : List Y) → IsSortedBy (is_before cmp) (x ∷ xs) → IsSortedBy (is_before cmp) xs
  sorted_tail x xs up k d low high = simp add-one (simp add-one at (up (k + 1) d (omega arith) (omega arith)))

  -- where x is first among those that pass, and nothing is before y, x is not before y
  first_passes : (p : Y → Bool) (y x : Y) (zs more : List Y) → All (NotBefore y) zs → filter p zs ≡ x ∷ more → NotBefore y x
  first_passes p y x zs more n e = let P : List Y → Type 0 = All (NotBefore y) in All-head (NotBefore y) x more (subst P e (All-filter p (NotBefore y) zs n))

  -- those that tie with the first of a list
  with_first : (x : Y) (xs : List Y) → filter (ties (is_before cmp) x) (x ∷ xs) ≡ x ∷ filter (ties (is_before cmp) x) xs
  with_first x xs = ap (λ b. cond b (x ∷ filter (ties (is_before cmp) x) xs) (filter (ties (is_before cmp) x) xs)) (tied_self x)

  same_rest : (b : Bool) (x : Y) (xs ys : List Y) → cond b (x ∷ xs) xs ≡ cond b (x ∷ ys) ys → xs ≡ ys
  same_rest true x xs ys e = cc
  same_rest false x xs ys e = e

  abbrev SameTies : List Y → List Y → Type 0
  SameTies xs ys = (z : Y) → filter (ties (is_before cmp) z) xs ≡ filter (ties (is_before cmp) z) ys

  module _ (x y : Y) (xs ys : List Y) (up : IsSortedBy (is_before cmp) (x ∷ xs)) (rise : IsSortedBy (is_before cmp) (y ∷ ys)) (same : SameTies (x ∷ xs) (y ∷ ys)) where
    first_not : NotBefore y x
    first_not =
        first_passes (ties (is_before cmp) x) y x (y ∷ ys) (filter (ties (is_before cmp) x) xs) (All-cons (NotBefore y) y ys (not_itself y) (after_first y ys rise))
        (sym (same x) ∙ with_first x xs)

    second_not : NotBefore x y
    second_not =
        first_passes (ties (is_before cmp) y) x y (x ∷ xs) (filter (ties (is_before cmp) y) ys) (All-cons (NotBefore x) x xs (not_itself x) (after_first x xs up))
        (same y ∙ with_first y ys)

    tied : ties (is_before cmp) x y ≡ true
    tied = ap (λ b. not b && not (is_before cmp y x)) first_not ∙ ap (λ b. not false && not b) second_not

    same_first : x ≡ y
    same_first =
        let e : x ∷ filter (ties (is_before cmp) x) xs ≡ y ∷ filter (ties (is_before cmp) x) ys
        = sym (with_first x xs) ∙ same x ∙ ap (λ b. cond b (y ∷ filter (ties (is_before cmp) x) ys) (filter (ties (is_before cmp) x) ys)) tied in cc

    same_later : SameTies xs ys
    same_later z = same_rest (ties (is_before cmp) z y) y (filter (ties (is_before cmp) z) xs) (filter (ties (is_before cmp) z) ys)
        (subst (λ f. cond (ties (is_before cmp) z f) (f ∷ filter (ties (is_before cmp) z) xs) (filter (ties (is_before cmp) z) xs) ≡ filter (ties (is_before cmp) z) (y ∷ ys)) same_first (same z))

  one_list : (xs ys : List Y) → IsSortedBy (is_before cmp) xs → IsSortedBy (is_before cmp) ys → SameTies xs ys → xs ≡ ys
  one_list [] [] up rise same = refl
  one_list [] (y ∷ ys) up rise same = let e : [] ≡ y ∷ filter (ties (is_before cmp) y) ys = same y ∙ with_first y ys in absurd (cc)
  one_list (x ∷ xs) [] up rise same = let e : [] ≡ x ∷ filter (ties (is_before cmp) x) xs = sym (same x) ∙ with_first x xs in absurd (cc)
  one_list (x ∷ xs) (y ∷ ys) up rise same =
      ap (λ z. z ∷ xs) (same_first x y xs ys up rise same) ∙ ap (λ zs. y ∷ zs) (one_list xs ys (sorted_tail x xs up) (sorted_tail y ys rise) (same_later x y xs ys up rise same))

  -- the list in order ascends
  abbrev NoneFirst : Y → List Y → Type 0
  NoneFirst y [] = ⊤
  NoneFirst y (z ∷ zs) = NotBefore y z

  behind : (y : Y) (zs : List Y) → NoneFirst y zs → IsSortedBy (is_before cmp) zs → IsSortedBy (is_before cmp) (y ∷ zs)
  behind y [] n up k d low high = absurd (omega arith)
  behind y (z ∷ zs) n up zero d low high = n
  behind y (z ∷ zs) n up (suc j) d low high = simp add-one (simp add-one at (up j d (omega arith) (omega arith)))

  none_first_put : (x y : Y) (zs : List Y) → NotBefore y x → NoneFirst y zs → NoneFirst y (put_in cmp x zs)
  none_first_put x y [] n m = n
  none_first_put x y (z ∷ zs) n m = cond_both (is_before cmp z x) _ _ (NoneFirst y) (λ _. m) (λ _. n)

  none_first : (y : Y) (zs : List Y) → IsSortedBy (is_before cmp) (y ∷ zs) → NoneFirst y zs
  none_first y [] up = tt
  none_first y (z ∷ zs) up = All-head (NotBefore y) z zs (after_first y (z ∷ zs) up)

  put_sorted : (x : Y) (ys : List Y) → IsSortedBy (is_before cmp) ys → IsSortedBy (is_before cmp) (put_in cmp x ys)
  put_sorted x [] up = behind x [] tt up
  put_sorted x (y ∷ ys) up =
      let later = put_sorted x ys (sorted_tail y ys up) in
      cond_both (is_before cmp y x) _ _ (IsSortedBy (is_before cmp)) (λ e. behind y (put_in cmp x ys) (none_first_put x y ys (weak.one_way y x e) (none_first y ys up)) later)
      (λ e. behind x (y ∷ ys) e up)

  ordered_sorted : (xs : List Y) → IsSortedBy (is_before cmp) (ordered cmp xs)
  ordered_sorted [] k d low high = absurd (omega arith)
  ordered_sorted (x ∷ xs) k d low high = put_sorted x (ordered cmp xs) (ordered_sorted xs) k d low high

  -- and those that tie stand in it as they stood
  tied_equal : (z x : Y) → ties (is_before cmp) z x ≡ true → cmp z x ≡ Equal
  tied_equal z x h = neither (cmp z x) (cmp x z) (total.antisymm z x) h

  not_both : (x y z : Y) → is_before cmp y x ≡ true → ties (is_before cmp) z x ≡ true → ties (is_before cmp) z y ≡ true → ⊥
  not_both x y z e h k =
      let same : cmp y x ≡ Equal = sym (total.congr z y x (tied_equal z y k)) ∙ tied_equal z x h in both_ways (is_before cmp y x) (ap is_lt same) e

  in_turn : (p q : Bool) (x y : Y) (more : List Y) → (p ≡ true → q ≡ true → ⊥)
      → cond q (y ∷ cond p (x ∷ more) more) (cond p (x ∷ more) more) ≡ cond p (x ∷ cond q (y ∷ more) more) (cond q (y ∷ more) more)
  in_turn true true x y more n = absurd (n refl refl)
  in_turn true false x y more n = refl
  in_turn false true x y more n = refl
  in_turn false false x y more n = refl

  put_ties : (x : Y) (ys : List Y) → SameTies (put_in cmp x ys) (x ∷ ys)
  put_ties x [] z = refl
  put_ties x (y ∷ ys) z =
      let tie : Y → Bool = ties (is_before cmp) z in
      cond_both (is_before cmp y x) _ _ (λ v. filter tie v ≡ filter tie (x ∷ y ∷ ys)) (λ e. ap (λ f. cond (tie y) (y ∷ f) f) (put_ties x ys z)
      ∙ in_turn (tie x) (tie y) x y (filter tie ys) (not_both x y z e)) (λ _. refl)

  ordered_ties : (xs : List Y) → SameTies (ordered cmp xs) xs
  ordered_ties [] z = refl
  ordered_ties (x ∷ xs) z = put_ties x (ordered cmp xs) z ∙ ap (λ f. cond (ties (is_before cmp) z x) (x ∷ f) f) (ordered_ties xs z)

  pub one_order : (old new : List Y) → IsSortedBy (is_before cmp) new → SameTies new old → new ≡ ordered cmp old
  one_order old new up same = one_list new (ordered cmp old) up (ordered_sorted old) (λ z. same z ∙ sym (ordered_ties old z))

-- the same said of what elements are seen as
abbrev pub seen_before : {X Y : Type 0} → (Y → Y → Ordering) → (X → Y) → X → X → Bool
seen_before cmp f x y = is_before cmp (f x) (f y)

module _ {X Y : Type 0} (cmp : Y → Y → Ordering) (total : IsTotalOrder cmp) (f : X → Y) where
  pub seen_weak : IsStrictWeakOrder (seen_before cmp f)
  seen_weak = ranks_by total f

  sorted_map : (xs : List X) → IsSortedBy (seen_before cmp f) xs → IsSortedBy (is_before cmp) (map f xs)
  sorted_map [] h k d low high = absurd (omega arith)
  sorted_map (x ∷ xs) h k d low high =
      let small : k + 1 < length (x ∷ xs) = subst (λ n. k + 1 < n) (length-map (x ∷ xs) f) high in
      let smaller : k < length (x ∷ xs) = omega arith in
      rw (get_or-map f (x ∷ xs) (k + 1) x d small, get_or-map f (x ∷ xs) k x d smaller) (h k x low small)

  filter_cases : (b : Bool) (x : X) (xs : List X) (ys : List Y) → ys ≡ map f xs → cond b (f x ∷ ys) ys ≡ map f (cond b (x ∷ xs) xs)
  filter_cases true x xs ys e = ap (λ z. f x ∷ z) e
  filter_cases false x xs ys e = e

  filter-map : (p : Y → Bool) (xs : List X) → filter p (map f xs) ≡ map f (filter (λ x. p (f x)) xs)
  filter-map p [] = refl
  filter-map p (x ∷ xs) = filter_cases (p (f x)) x (filter (λ y. p (f y)) xs) (filter p (map f xs)) (filter-map p xs)

  same_ties : (x y z : Y) → ties (is_before cmp) x y ≡ true → ties (is_before cmp) x z ≡ ties (is_before cmp) y z
  same_ties x y z h =
      let there : cmp x z ≡ cmp y z = total.congr x y z (tied_equal cmp total x y h) in
      let back : cmp z x ≡ cmp z y = total.antisymm z x ∙ ap ordering_reverse there ∙ sym (total.antisymm z y) in
      ap (λ r. not (is_lt r) && not (is_lt (cmp z x))) there ∙ ap (λ r. not (is_lt (cmp y z)) && not (is_lt r)) back

  -- one of the elements is seen as one that ties with z, or none is
  abbrev Tied : Y → Type 0
  Tied z = (x : X) × (ties (is_before cmp) z (f x) ≡ true)

  tied_or_none : (z : Y) (xs : List X) → Tied z ⊎ (filter (ties (is_before cmp) z) (map f xs) ≡ [])
  tied_or_none z [] = inr refl
  tied_or_none z (x ∷ xs) = cond_both (ties (is_before cmp) z (f x)) _ _ (λ v. Tied z ⊎ (v ≡ [])) (λ e. inl (x, e)) (λ _. tied_or_none z xs)

  module _ (old new : List X) (h : IsStableBy (seen_before cmp f) old new) (z : Y) where
    stable_at : Tied z → filter (ties (is_before cmp) z) (map f new) ≡ filter (ties (is_before cmp) z) (map f old)
    stable_at tied =
        let y = f tied.0 in
        let same : (w : Y) → ties (is_before cmp) z w ≡ ties (is_before cmp) y w = λ w. same_ties z y w tied.1 in
        filter_agree (ties (is_before cmp) z) (ties (is_before cmp) y) same (map f new) ∙ filter-map (ties (is_before cmp) y) new ∙ ap (map f) (h tied.0)
        ∙ sym (filter-map (ties (is_before cmp) y) old) ∙ sym (filter_agree (ties (is_before cmp) z) (ties (is_before cmp) y) same (map f old))

    stable_or : Tied z ⊎ (filter (ties (is_before cmp) z) (map f old) ≡ []) → Tied z ⊎ (filter (ties (is_before cmp) z) (map f new) ≡ [])
        → filter (ties (is_before cmp) z) (map f new) ≡ filter (ties (is_before cmp) z) (map f old)
    stable_or (inl tied) later = stable_at tied
    stable_or (inr none) (inl tied) = stable_at tied
    stable_or (inr none) (inr nor) = nor ∙ sym none

  pub one_outcome : (old new : List X) → IsSortedBy (seen_before cmp f) new → IsStableBy (seen_before cmp f) old new → map f new ≡ ordered cmp (map f old)
  one_outcome old new s h = one_order cmp total (map f old) (map f new) (sorted_map new s) (λ z. stable_or old new h z (tied_or_none z old) (tied_or_none z new))
