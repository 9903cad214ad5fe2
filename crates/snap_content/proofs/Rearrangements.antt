-- Trees whose maps are put in another order: where nothing is done, and one turn of a loop over a list.
use Rattle.snap_content.proofs.Prelude.{◌≡◌, true, ℕ, suc, ◌+◌, ◌<◌, ◌≤◌, List, [], ◌∷◌, ◌++◌, map, get_or, set, take, drop, length, refl, sym, ap, ◌∙◌, subst, arith, add-one, drop-cons, append_assoc, append-nil, map-append, drop-set-lt, take_more_set, take_all, drop_all, tree, item_trees, pair_tree, pair_trees, field_trees, is_leaf, Entry, Rearranged, ItemsRearranged, PairsRearranged, FieldsRearranged, Content}
use Rattle.snap_content.specs.Tree as t
use Rattle.snap_content.proofs.Joined.{joined, joined-push, joined-end, joined-whole, joined_fields, joined_fields-push, joined_fields-end, joined_fields-whole, pairs-whole}

-- the entries of a map, as a list
abbrev entries_of : t.TreePairs → List Entry
entries_of t.no_pairs = []
entries_of (t.pair key value rest) = (key, value) ∷ entries_of rest

entries_back : (ps : t.TreePairs) → ps ≡ t.pairs_of (entries_of ps)
entries_back t.no_pairs = refl
entries_back (t.pair key value rest) = ap (λ z. t.pair key value z) (entries_back rest)

module _ (R : List Entry → List Entry → Type 0) where
  pub items_turn : (all now : List Content) (i : ℕ) (x y : Content)
      → ((rest : t.Trees) → ItemsRearranged R (item_trees (drop i now)) rest → ItemsRearranged R (item_trees all) (joined (take i now) rest))
      → i < length now → x ≡ get_or now i x → Rearranged R (tree x) (tree y)
      → (rest : t.Trees) → ItemsRearranged R (item_trees (drop (i + 1) (set now i y))) rest → ItemsRearranged R (item_trees all) (joined (take (i + 1) (set now i y)) rest)
  items_turn all now i x y so_far small is s rest later =
      let e : drop i now ≡ x ∷ drop (suc i) now = drop-cons now i x small ∙ ap (λ z. z ∷ drop (suc i) now) (sym is) in
      let same : drop (i + 1) (set now i y) ≡ drop (suc i) now = drop-set-lt (i + 1) now i y (omega arith) ∙ ap (λ k. drop k now) (add-one i) in
      let next : ItemsRearranged R (item_trees (drop (suc i) now)) rest = subst (λ z. ItemsRearranged R (item_trees z) rest) same later in
      let one : ItemsRearranged R (item_trees (drop i now)) (t.tree (tree y) rest) = subst (λ z. ItemsRearranged R (item_trees z) (t.tree (tree y) rest)) (sym e) (tree y, rest, refl, s, next) in
      subst (λ z. ItemsRearranged R (item_trees all) z) (sym (joined-push (take i now) y rest) ∙ ap (λ z. joined z rest) (sym (take_more_set now i y small))) (so_far (t.tree (tree y) rest) one)

  pub items_end : (all now : List Content) (i : ℕ)
      → ((rest : t.Trees) → ItemsRearranged R (item_trees (drop i now)) rest → ItemsRearranged R (item_trees all) (joined (take i now) rest))
      → length now ≤ i → ItemsRearranged R (item_trees all) (item_trees now)
  items_end all now i so_far done =
      let none : ItemsRearranged R (item_trees (drop i now)) t.no_trees = subst (λ z. ItemsRearranged R (item_trees z) t.no_trees) (sym (drop_all i now done)) refl in
      subst (λ z. ItemsRearranged R (item_trees all) z) (ap (λ z. joined z t.no_trees) (take_all i now done) ∙ joined-end now) (so_far t.no_trees none)

  pub pairs_turn : (all now : List (Content × Content)) (i : ℕ) (x y : Content × Content)
      → ((rest : List Entry) → PairsRearranged R (pair_trees (drop i now)) rest → PairsRearranged R (pair_trees all) (map pair_tree (take i now) ++ rest))
      → i < length now → x ≡ get_or now i x → Rearranged R (tree x.0) (tree y.0) → Rearranged R (tree x.1) (tree y.1)
      → (rest : List Entry) → PairsRearranged R (pair_trees (drop (i + 1) (set now i y))) rest → PairsRearranged R (pair_trees all) (map pair_tree (take (i + 1) (set now i y)) ++ rest)
  pairs_turn all now i x y so_far small is s r rest later =
      let e : drop i now ≡ x ∷ drop (suc i) now = drop-cons now i x small ∙ ap (λ z. z ∷ drop (suc i) now) (sym is) in
      let same : drop (i + 1) (set now i y) ≡ drop (suc i) now = drop-set-lt (i + 1) now i y (omega arith) ∙ ap (λ k. drop k now) (add-one i) in
      let next : PairsRearranged R (pair_trees (drop (suc i) now)) rest = subst (λ z. PairsRearranged R (pair_trees z) rest) same later in
      let one : PairsRearranged R (pair_trees (drop i now)) (pair_tree y ∷ rest) = subst (λ z. PairsRearranged R (pair_trees z) (pair_tree y ∷ rest)) (sym e) (tree y.0, tree y.1, rest, refl, s, r, next) in
      let front : map pair_tree (take (i + 1) (set now i y)) ++ rest ≡ map pair_tree (take i now) ++ (pair_tree y ∷ rest)
      = ap (λ z. map pair_tree z ++ rest) (take_more_set now i y small) ∙ ap (λ z. z ++ rest) (map-append pair_tree (take i now) (y ∷ [])) ∙ append_assoc (map pair_tree (take i now)) (pair_tree y ∷ []) rest in
      subst (λ z. PairsRearranged R (pair_trees all) z) (sym front) (so_far (pair_tree y ∷ rest) one)

  pub pairs_end : (all now : List (Content × Content)) (i : ℕ)
      → ((rest : List Entry) → PairsRearranged R (pair_trees (drop i now)) rest → PairsRearranged R (pair_trees all) (map pair_tree (take i now) ++ rest))
      → length now ≤ i → PairsRearranged R (pair_trees all) (map pair_tree now)
  pairs_end all now i so_far done =
      let none : PairsRearranged R (pair_trees (drop i now)) [] = subst (λ z. PairsRearranged R (pair_trees z) []) (sym (drop_all i now done)) refl in
      subst (λ z. PairsRearranged R (pair_trees all) z) (append-nil (map pair_tree (take i now)) ∙ ap (map pair_tree) (take_all i now done)) (so_far [] none)

  pub fields_turn : (all now : List (List ℕ × Content)) (i : ℕ) (x y : List ℕ × Content)
      → ((rest : t.TreeFields) → FieldsRearranged R (field_trees (drop i now)) rest → FieldsRearranged R (field_trees all) (joined_fields (take i now) rest))
      → i < length now → x ≡ get_or now i x → y.0 ≡ x.0 → Rearranged R (tree x.1) (tree y.1)
      → (rest : t.TreeFields) → FieldsRearranged R (field_trees (drop (i + 1) (set now i y))) rest → FieldsRearranged R (field_trees all) (joined_fields (take (i + 1) (set now i y)) rest)
  fields_turn all now i x y so_far small is name s rest later =
      let e : drop i now ≡ x ∷ drop (suc i) now = drop-cons now i x small ∙ ap (λ z. z ∷ drop (suc i) now) (sym is) in
      let same : drop (i + 1) (set now i y) ≡ drop (suc i) now = drop-set-lt (i + 1) now i y (omega arith) ∙ ap (λ k. drop k now) (add-one i) in
      let next : FieldsRearranged R (field_trees (drop (suc i) now)) rest = subst (λ z. FieldsRearranged R (field_trees z) rest) same later in
      let one : FieldsRearranged R (field_trees (drop i now)) (t.field y.0 (tree y.1) rest)
      = subst (λ z. FieldsRearranged R (field_trees z) (t.field y.0 (tree y.1) rest)) (sym e) (tree y.1, rest, ap (λ n. t.field n (tree y.1) rest) name, s, next) in
      subst (λ z. FieldsRearranged R (field_trees all) z) (sym (joined_fields-push (take i now) y rest) ∙ ap (λ z. joined_fields z rest) (sym (take_more_set now i y small)))
      (so_far (t.field y.0 (tree y.1) rest) one)

  pub fields_end : (all now : List (List ℕ × Content)) (i : ℕ)
      → ((rest : t.TreeFields) → FieldsRearranged R (field_trees (drop i now)) rest → FieldsRearranged R (field_trees all) (joined_fields (take i now) rest))
      → length now ≤ i → FieldsRearranged R (field_trees all) (field_trees now)
  fields_end all now i so_far done =
      let none : FieldsRearranged R (field_trees (drop i now)) t.no_fields = subst (λ z. FieldsRearranged R (field_trees z) t.no_fields) (sym (drop_all i now done)) refl in
      subst (λ z. FieldsRearranged R (field_trees all) z) (ap (λ z. joined_fields z t.no_fields) (take_all i now done) ∙ joined_fields-end now) (so_far t.no_fields none)

  -- a map's entries in two lists that are the same
  pub map_moved : (before old after new : List (Content × Content)) → before ≡ old → new ≡ after → Rearranged R (t.map (pair_trees before)) (t.map (pair_trees after))
      → Rearranged R (t.map (pair_trees old)) (t.map (pair_trees new))
  map_moved before old after new e f s =
      subst (λ ps. Rearranged R (t.map (pair_trees ps)) (t.map (pair_trees new))) e (subst (λ ps. Rearranged R (t.map (pair_trees before)) (t.map (pair_trees ps))) (sym f) s)

  module _ (same : (es : List Entry) → R es es) where
    mutual
      pub unmoved : (x : t.Tree) → Rearranged R x x
      unmoved (t.some inner) = (inner, refl, unmoved inner)
      unmoved (t.newtype_struct name inner) = (inner, refl, unmoved inner)
      unmoved (t.newtype_variant name index variant inner) = (inner, refl, unmoved inner)
      unmoved (t.seq items) = (items, refl, items_unmoved items)
      unmoved (t.tuple items) = (items, refl, items_unmoved items)
      unmoved (t.tuple_struct name items) = (items, refl, items_unmoved items)
      unmoved (t.tuple_variant name index variant items) = (items, refl, items_unmoved items)
      unmoved (t.map pairs) = (entries_of pairs, entries_of pairs, ap t.map (entries_back pairs), entries_unmoved pairs, same (entries_of pairs))
      unmoved (t.struct name fields) = (fields, refl, fields_unmoved fields)
      unmoved (t.struct_variant name index variant fields) = (fields, refl, fields_unmoved fields)
      unmoved other = refl

      pub items_unmoved : (xs : t.Trees) → ItemsRearranged R xs xs
      items_unmoved t.no_trees = refl
      items_unmoved (t.tree first rest) = (first, rest, refl, unmoved first, items_unmoved rest)

      entries_unmoved : (ps : t.TreePairs) → PairsRearranged R ps (entries_of ps)
      entries_unmoved t.no_pairs = refl
      entries_unmoved (t.pair key value rest) = (key, value, entries_of rest, refl, unmoved key, unmoved value, entries_unmoved rest)

      pub fields_unmoved : (fs : t.TreeFields) → FieldsRearranged R fs fs
      fields_unmoved t.no_fields = refl
      fields_unmoved (t.field name value rest) = (value, rest, refl, unmoved value, fields_unmoved rest)

    pairs_unmoved : (ps : List (Content × Content)) → PairsRearranged R (pair_trees ps) (map pair_tree ps)
    pairs_unmoved [] = refl
    pairs_unmoved (p ∷ ps) = (tree p.0, tree p.1, map pair_tree ps, refl, unmoved (tree p.0), unmoved (tree p.1), pairs_unmoved ps)

    -- where a loop stops at the element at i, which became y
    pub items_stop : (all now : List Content) (i : ℕ) (x y : Content)
        → ((rest : t.Trees) → ItemsRearranged R (item_trees (drop i now)) rest → ItemsRearranged R (item_trees all) (joined (take i now) rest))
        → i < length now → x ≡ get_or now i x → Rearranged R (tree x) (tree y) → ItemsRearranged R (item_trees all) (item_trees (set now i y))
    items_stop all now i x y so_far small is s =
        subst (λ z. ItemsRearranged R (item_trees all) z) (joined-whole (i + 1) (set now i y))
        (items_turn all now i x y so_far small is s (item_trees (drop (i + 1) (set now i y))) (items_unmoved (item_trees (drop (i + 1) (set now i y)))))

    pub pairs_stop : (all now : List (Content × Content)) (i : ℕ) (x y : Content × Content)
        → ((rest : List Entry) → PairsRearranged R (pair_trees (drop i now)) rest → PairsRearranged R (pair_trees all) (map pair_tree (take i now) ++ rest))
        → i < length now → x ≡ get_or now i x → Rearranged R (tree x.0) (tree y.0) → Rearranged R (tree x.1) (tree y.1) → PairsRearranged R (pair_trees all) (map pair_tree (set now i y))
    pairs_stop all now i x y so_far small is s r =
        subst (λ z. PairsRearranged R (pair_trees all) z) (pairs-whole (i + 1) (set now i y))
        (pairs_turn all now i x y so_far small is s r (map pair_tree (drop (i + 1) (set now i y))) (pairs_unmoved (drop (i + 1) (set now i y))))

    pub fields_stop : (all now : List (List ℕ × Content)) (i : ℕ) (x y : List ℕ × Content)
        → ((rest : t.TreeFields) → FieldsRearranged R (field_trees (drop i now)) rest → FieldsRearranged R (field_trees all) (joined_fields (take i now) rest))
        → i < length now → x ≡ get_or now i x → y.0 ≡ x.0 → Rearranged R (tree x.1) (tree y.1) → FieldsRearranged R (field_trees all) (field_trees (set now i y))
    fields_stop all now i x y so_far small is name s =
        subst (λ z. FieldsRearranged R (field_trees all) z) (joined_fields-whole (i + 1) (set now i y))
        (fields_turn all now i x y so_far small is name s (field_trees (drop (i + 1) (set now i y))) (fields_unmoved (field_trees (drop (i + 1) (set now i y)))))

-- a tree without maps inside stays as it is
pub leaf_stays : (R : List Entry → List Entry → Type 0) (x : t.Tree) → is_leaf x ≡ true → Rearranged R x x
leaf_stays R (t.some inner) leaf = absurd (cc)
leaf_stays R (t.newtype_struct name inner) leaf = absurd (cc)
leaf_stays R (t.newtype_variant name index variant inner) leaf = absurd (cc)
leaf_stays R (t.seq items) leaf = absurd (cc)
leaf_stays R (t.tuple items) leaf = absurd (cc)
leaf_stays R (t.tuple_struct name items) leaf = absurd (cc)
leaf_stays R (t.tuple_variant name index variant items) leaf = absurd (cc)
leaf_stays R (t.map pairs) leaf = absurd (cc)
leaf_stays R (t.struct name fs) leaf = absurd (cc)
leaf_stays R (t.struct_variant name index variant fs) leaf = absurd (cc)
leaf_stays R other leaf = refl
