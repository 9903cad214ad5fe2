-- Lists compare as the lists of the trees that they mean.
use Rattle.snap_content.proofs.Prelude.{◌≡◌, ℕ, List, [], ◌∷◌, refl, ap, ordering_then, slice_cmp, text_cmp, trees_cmp, pairs_cmp, fields_cmp, item_trees, pair_trees, field_trees, Content}
use Rattle.snap_content.specs.Compared.{content_cmp}

pub items_order : (xs ys : List Content) → slice_cmp content_cmp xs ys ≡ trees_cmp (item_trees xs) (item_trees ys)
items_order [] [] = refl
items_order [] (y ∷ ys) = refl
items_order (x ∷ xs) [] = refl
items_order (x ∷ xs) (y ∷ ys) = ap (ordering_then (content_cmp x y)) (items_order xs ys)

pub pairs_order : (xs ys : List (Content × Content))
    → slice_cmp (λ x y. ordering_then (content_cmp x.0 y.0) (content_cmp x.1 y.1)) xs ys ≡ pairs_cmp (pair_trees xs) (pair_trees ys)
pairs_order [] [] = refl
pairs_order [] (y ∷ ys) = refl
pairs_order (x ∷ xs) [] = refl
pairs_order (x ∷ xs) (y ∷ ys) = ap (ordering_then (ordering_then (content_cmp x.0 y.0) (content_cmp x.1 y.1))) (pairs_order xs ys)

pub fields_order : (xs ys : List (List ℕ × Content))
    → slice_cmp (λ x y. ordering_then (text_cmp x.0 y.0) (content_cmp x.1 y.1)) xs ys ≡ fields_cmp (field_trees xs) (field_trees ys)
fields_order [] [] = refl
fields_order [] (y ∷ ys) = refl
fields_order (x ∷ xs) [] = refl
fields_order (x ∷ xs) (y ∷ ys) = ap (ordering_then (ordering_then (text_cmp x.0 y.0) (content_cmp x.1 y.1))) (fields_order xs ys)
