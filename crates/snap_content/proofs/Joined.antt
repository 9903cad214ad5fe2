-- Trees in front of others, and what is left of a list after a place.
use Rattle.snap_content.proofs.Prelude.{◌≡◌, ℕ, zero, suc, ◌+◌, ◌<◌, ◌≤◌, List, [], ◌∷◌, ◌++◌, map, get_or, set, take, drop, length, refl, sym, ap, ◌∙◌, arith, add-one, drop-cons, drop-set-lt, tree, item_trees, pair_tree, pair_trees, field_trees, Content, count, count_items, count_pairs, count_fields}
use Rattle.snap_content.specs.Tree as t

abbrev pub joined : List Content → t.Trees → t.Trees
joined [] more = more
joined (c ∷ cs) more = t.tree (tree c) (joined cs more)

abbrev pub joined_fields : List (List ℕ × Content) → t.TreeFields → t.TreeFields
joined_fields [] more = more
joined_fields (f ∷ fs) more = t.field f.0 (tree f.1) (joined_fields fs more)

abbrev pub joined_pairs : List (Content × Content) → t.TreePairs → t.TreePairs
joined_pairs [] more = more
joined_pairs (p ∷ ps) more = t.pair (tree p.0) (tree p.1) (joined_pairs ps more)

pub joined-push : (cs : List Content) (c : Content) (more : t.Trees) → joined (cs ++ c ∷ []) more ≡ joined cs (t.tree (tree c) more)
joined-push [] c more = refl
joined-push (x ∷ xs) c more = ap (λ y. t.tree (tree x) y) (joined-push xs c more)

pub joined-end : (cs : List Content) → joined cs t.no_trees ≡ item_trees cs
joined-end [] = refl
joined-end (x ∷ xs) = ap (λ y. t.tree (tree x) y) (joined-end xs)

pub joined-whole : (k : ℕ) (cs : List Content) → joined (take k cs) (item_trees (drop k cs)) ≡ item_trees cs
joined-whole zero cs = refl
joined-whole (suc k) [] = refl
joined-whole (suc k) (c ∷ cs) = ap (λ y. t.tree (tree c) y) (joined-whole k cs)

pub joined_pairs-push : (ps : List (Content × Content)) (p : Content × Content) (more : t.TreePairs) → joined_pairs (ps ++ p ∷ []) more ≡ joined_pairs ps (t.pair (tree p.0) (tree p.1) more)
joined_pairs-push [] p more = refl
joined_pairs-push (x ∷ xs) p more = ap (λ y. t.pair (tree x.0) (tree x.1) y) (joined_pairs-push xs p more)

pub joined_pairs-end : (ps : List (Content × Content)) → joined_pairs ps t.no_pairs ≡ pair_trees ps
joined_pairs-end [] = refl
joined_pairs-end (x ∷ xs) = ap (λ y. t.pair (tree x.0) (tree x.1) y) (joined_pairs-end xs)

pub joined_fields-push : (fs : List (List ℕ × Content)) (f : List ℕ × Content) (more : t.TreeFields) → joined_fields (fs ++ f ∷ []) more ≡ joined_fields fs (t.field f.0 (tree f.1) more)
joined_fields-push [] f more = refl
joined_fields-push (x ∷ xs) f more = ap (λ y. t.field x.0 (tree x.1) y) (joined_fields-push xs f more)

pub joined_fields-end : (fs : List (List ℕ × Content)) → joined_fields fs t.no_fields ≡ field_trees fs
joined_fields-end [] = refl
joined_fields-end (x ∷ xs) = ap (λ y. t.field x.0 (tree x.1) y) (joined_fields-end xs)

pub joined_fields-whole : (k : ℕ) (fs : List (List ℕ × Content)) → joined_fields (take k fs) (field_trees (drop k fs)) ≡ field_trees fs
joined_fields-whole zero fs = refl
joined_fields-whole (suc k) [] = refl
joined_fields-whole (suc k) (f ∷ fs) = ap (λ y. t.field f.0 (tree f.1) y) (joined_fields-whole k fs)

pub pairs-whole : (k : ℕ) (ps : List (Content × Content)) → map pair_tree (take k ps) ++ map pair_tree (drop k ps) ≡ map pair_tree ps
pairs-whole zero ps = refl
pairs-whole (suc k) [] = refl
pairs-whole (suc k) (p ∷ ps) = ap (λ y. pair_tree p ∷ y) (pairs-whole k ps)

drop_more : {X : Type 0} (xs : List X) (i : ℕ) → drop 1 (drop i xs) ≡ drop (suc i) xs
drop_more xs zero = refl
drop_more [] (suc i) = refl
drop_more (x ∷ xs) (suc i) = drop_more xs i

pub left_turn : {X : Type 0} (all now : List X) (i : ℕ) (y : X) → drop i now ≡ drop i all → drop (i + 1) (set now i y) ≡ drop (i + 1) all
left_turn all now i y left =
    drop-set-lt (i + 1) now i y (omega arith) ∙ ap (λ k. drop k now) (add-one i) ∙ sym (drop_more now i) ∙ ap (drop 1) left ∙ drop_more all i ∙ ap (λ k. drop k all) (sym (add-one i))

count_drop : (xs : List Content) (i : ℕ) → count_items (item_trees (drop i xs)) ≤ count_items (item_trees xs)
count_drop xs zero = omega arith
count_drop [] (suc i) = omega arith
count_drop (x ∷ xs) (suc i) = omega (arith, count_drop xs i)

count_pairs_drop : (xs : List (Content × Content)) (i : ℕ) → count_pairs (pair_trees (drop i xs)) ≤ count_pairs (pair_trees xs)
count_pairs_drop xs zero = omega arith
count_pairs_drop [] (suc i) = omega arith
count_pairs_drop (x ∷ xs) (suc i) = omega (arith, count_pairs_drop xs i)

count_fields_drop : (xs : List (List ℕ × Content)) (i : ℕ) → count_fields (field_trees (drop i xs)) ≤ count_fields (field_trees xs)
count_fields_drop xs zero = omega arith
count_fields_drop [] (suc i) = omega arith
count_fields_drop (x ∷ xs) (suc i) = omega (arith, count_fields_drop xs i)

pub count_left : (all now : List Content) (i : ℕ) (x : Content) → drop i now ≡ drop i all → i < length now → x ≡ get_or now i x → count (tree x) ≤ count_items (item_trees all)
count_left all now i x left small is =
    let e : drop i now ≡ x ∷ drop (suc i) now = drop-cons now i x small ∙ ap (λ z. z ∷ drop (suc i) now) (sym is) in
    omega (arith, ap (λ z. count_items (item_trees z)) (sym left ∙ e), count_drop all i)

pub count_pairs_left : (all now : List (Content × Content)) (i : ℕ) (x : Content × Content) → drop i now ≡ drop i all → i < length now → x ≡ get_or now i x
    → count (tree x.0) + count (tree x.1) ≤ count_pairs (pair_trees all)
count_pairs_left all now i x left small is =
    let e : drop i now ≡ x ∷ drop (suc i) now = drop-cons now i x small ∙ ap (λ z. z ∷ drop (suc i) now) (sym is) in
    omega (arith, ap (λ z. count_pairs (pair_trees z)) (sym left ∙ e), count_pairs_drop all i)

pub count_fields_left : (all now : List (List ℕ × Content)) (i : ℕ) (x : List ℕ × Content) → drop i now ≡ drop i all → i < length now → x ≡ get_or now i x
    → count (tree x.1) ≤ count_fields (field_trees all)
count_fields_left all now i x left small is =
    let e : drop i now ≡ x ∷ drop (suc i) now = drop-cons now i x small ∙ ap (λ z. z ∷ drop (suc i) now) (sym is) in
    omega (arith, ap (λ z. count_fields (field_trees z)) (sym left ∙ e), count_fields_drop all i)
