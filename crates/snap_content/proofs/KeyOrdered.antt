-- What a stable sort by keys says of contents, said of their trees.
use Rattle.snap_content.proofs.Prelude.{◌≡◌, ◌+◌, ◌<◌, Bool, true, false, cond, not, ◌&&◌, List, [], ◌∷◌, map, filter, get_or, length, refl, sym, ap, ◌∙◌, subst, arith, inl, inr, ◌⊎◌, length-map, get_or-map, filter_agree, IsPermutation-map, IsPermutation, IsSortedBy, IsStableBy, ties, Ordering, Less, Equal, Greater, is_lt, ordering_reverse, pair_tree, key_total, Entry, InKeyOrder, Content}
use Rattle.snap_content.specs.Keys.{key_cmp}
use Rattle.snap_content.specs.declared.content.Content.{Unit as no_value}

abbrev pub is_before : Entry → Entry → Bool
is_before e f = is_lt (key_cmp e.0 f.0)

-- the same of pairs of contents
abbrev pub content_before : Content × Content → Content × Content → Bool
content_before p q = is_before (pair_tree p) (pair_tree q)

sorted_map : (xs : List (Content × Content)) → IsSortedBy content_before xs → IsSortedBy is_before (map pair_tree xs)
sorted_map xs h k d low high =
    let e : Content × Content = (no_value, no_value) in
    let small : k + 1 < length xs = subst (λ n. k + 1 < n) (length-map xs pair_tree) high in
    let smaller : k < length xs = omega arith in
    ap (λ x. is_before x (get_or (map pair_tree xs) k d)) (get_or-map pair_tree xs (k + 1) e d small)
    ∙ ap (λ x. is_before (pair_tree (get_or xs (k + 1) e)) x) (get_or-map pair_tree xs k e d smaller) ∙ h k e low small

filter_cases : (b : Bool) (x : Content × Content) (xs : List (Content × Content)) (ys : List Entry) → ys ≡ map pair_tree xs → cond b (pair_tree x ∷ ys) ys ≡ map pair_tree (cond b (x ∷ xs) xs)
filter_cases true x xs ys e = ap (λ z. pair_tree x ∷ z) e
filter_cases false x xs ys e = e

filter-map : (p : Entry → Bool) (xs : List (Content × Content)) → filter p (map pair_tree xs) ≡ map pair_tree (filter (λ y. p (pair_tree y)) xs)
filter-map p [] = refl
filter-map p (x ∷ xs) = filter_cases (p (pair_tree x)) x (filter (λ y. p (pair_tree y)) xs) (filter p (map pair_tree xs)) (filter-map p xs)

-- two entries that tie have keys that the order does not tell apart, so they tie with the same entries
pub neither : (r s : Ordering) → r ≡ ordering_reverse s → (not (is_lt r) && not (is_lt s)) ≡ true → r ≡ Equal
neither Less s e h = absurd (cc)
neither Equal s e h = refl
neither Greater Less e h = absurd (cc)
neither Greater Equal e h = absurd (cc)
neither Greater Greater e h = absurd (cc)

pub tied_equal : (x y : Entry) → ties is_before x y ≡ true → key_cmp x.0 y.0 ≡ Equal
tied_equal x y h = neither (key_cmp x.0 y.0) (key_cmp y.0 x.0) (key_total.antisymm x.0 y.0) h

same_ties : (x y z : Entry) → ties is_before x y ≡ true → ties is_before x z ≡ ties is_before y z
same_ties x y z h =
    let there : key_cmp x.0 z.0 ≡ key_cmp y.0 z.0 = key_total.congr x.0 y.0 z.0 (tied_equal x y h) in
    let back : key_cmp z.0 x.0 ≡ key_cmp z.0 y.0 = key_total.antisymm z.0 x.0 ∙ ap ordering_reverse there ∙ sym (key_total.antisymm z.0 y.0) in
    ap (λ r. not (is_lt r) && not (is_lt (key_cmp z.0 x.0))) there ∙ ap (λ r. not (is_lt (key_cmp y.0 z.0)) && not (is_lt r)) back

-- one of the contents ties with x, or none does
abbrev Tied : Entry → Type 0
Tied x = (y : Content × Content) × (ties is_before x (pair_tree y) ≡ true)

first_or_later : (x : Entry) (y : Content × Content) (ys : List Entry) (b : Bool) → ties is_before x (pair_tree y) ≡ b → Tied x ⊎ (filter (ties is_before x) ys ≡ [])
    → Tied x ⊎ (cond b (pair_tree y ∷ filter (ties is_before x) ys) (filter (ties is_before x) ys) ≡ [])
first_or_later x y ys true e later = inl (y, e)
first_or_later x y ys false e (inl h) = inl h
first_or_later x y ys false e (inr h) = inr h

tied_or_none : (x : Entry) (xs : List (Content × Content)) → Tied x ⊎ (filter (ties is_before x) (map pair_tree xs) ≡ [])
tied_or_none x [] = inr refl
tied_or_none x (y ∷ ys) = first_or_later x y (map pair_tree ys) (ties is_before x (pair_tree y)) refl (tied_or_none x ys)

module _ (old new : List (Content × Content)) (h : IsStableBy content_before old new) (x : Entry) where
  stable_at : Tied x → filter (ties is_before x) (map pair_tree new) ≡ filter (ties is_before x) (map pair_tree old)
  stable_at tied =
      let y = pair_tree tied.0 in
      let same : (z : Entry) → ties is_before x z ≡ ties is_before y z = λ z. same_ties x y z tied.1 in
      filter_agree (ties is_before x) (ties is_before y) same (map pair_tree new) ∙ filter-map (ties is_before y) new ∙ ap (map pair_tree) (h tied.0)
      ∙ sym (filter-map (ties is_before y) old) ∙ sym (filter_agree (ties is_before x) (ties is_before y) same (map pair_tree old))

  stable_or : Tied x ⊎ (filter (ties is_before x) (map pair_tree old) ≡ []) → Tied x ⊎ (filter (ties is_before x) (map pair_tree new) ≡ [])
      → filter (ties is_before x) (map pair_tree new) ≡ filter (ties is_before x) (map pair_tree old)
  stable_or (inl tied) later = stable_at tied
  stable_or (inr none) (inl tied) = stable_at tied
  stable_or (inr none) (inr nor) = nor ∙ sym none

pub in_key_order : (old new : List (Content × Content)) → IsPermutation old new → IsSortedBy content_before new → IsStableBy content_before old new → InKeyOrder (map pair_tree old) (map pair_tree new)
in_key_order old new p s k = record {
  same_entries = IsPermutation-map pair_tree old new p;
  ascends = sorted_map new s;
  keeps_ties = λ x. stable_or old new k x (tied_or_none x old) (tied_or_none x new);
}
