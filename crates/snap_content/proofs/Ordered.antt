-- The order of trees of one variant, where the search is given the equations, and of lists at their ends.
use Rattle.snap_content.proofs.Prelude.{◌≡◌, ℕ, List, [], ◌∷◌, length, false, sym, ap, ◌∙◌, ◌==◌, Ordering, Less, Equal, ordering_then, nat_cmp, tree, item_trees, pair_trees, field_list, field_trees, Fields, tree_cmp, trees_cmp, pairs_cmp, fields_cmp, text_cmp, Content, Struct, StructVariant}
use Rattle.snap_content.specs.Tree as t
use Rattle.snap_content.proofs.Views.{tree-Struct, tree-StructVariant}

-- an order that comes after others which are equal
behind : (first then : Ordering) → first ≡ Equal → then ≡ ordering_then first then
behind first then is = ap (λ o. ordering_then o then) (sym is)

pub struct_order : (a b : Content) (s s' : List ℕ) (x x' : Fields) (r names : Ordering) → a ≡ Struct s x → b ≡ Struct s' x' → names ≡ text_cmp s s' → names ≡ Equal
    → r ≡ fields_cmp (field_trees (field_list x)) (field_trees (field_list x')) → r ≡ tree_cmp (tree a) (tree b)
struct_order a b s s' x x' r names is_a is_b compared equal is =
    is ∙ behind (text_cmp s s') _ (sym compared ∙ equal)
    ∙ ap (λ y. tree_cmp y (t.struct s' (field_trees (field_list x')))) (sym (ap tree is_a ∙ tree-Struct s x))
    ∙ ap (tree_cmp (tree a)) (sym (ap tree is_b ∙ tree-Struct s' x'))

pub struct_variant_order : (a b : Content) (s s' : List ℕ) (i i' : ℕ) (v v' : List ℕ) (x x' : Fields) (r names indexes variants : Ordering) → a ≡ StructVariant s i v x
    → b ≡ StructVariant s' i' v' x' → names ≡ text_cmp s s' → names ≡ Equal → indexes ≡ nat_cmp i i' → indexes ≡ Equal → variants ≡ text_cmp v v' → variants ≡ Equal
    → r ≡ fields_cmp (field_trees (field_list x)) (field_trees (field_list x')) → r ≡ tree_cmp (tree a) (tree b)
struct_variant_order a b s s' i i' v v' x x' r names indexes variants is_a is_b names_are names_equal indexes_are indexes_equal variants_are variants_equal is =
    is ∙ behind (text_cmp v v') _ (sym variants_are ∙ variants_equal) ∙ behind (nat_cmp i i') _ (sym indexes_are ∙ indexes_equal)
    ∙ behind (text_cmp s s') _ (sym names_are ∙ names_equal)
    ∙ ap (λ y. tree_cmp y (t.struct_variant s' i' v' (field_trees (field_list x')))) (sym (ap tree is_a ∙ tree-StructVariant s i v x))
    ∙ ap (tree_cmp (tree a)) (sym (ap tree is_b ∙ tree-StructVariant s' i' v' x'))

-- the list that ends first comes first
pub items_end : (xs ys : List Content) (r : Ordering) → xs ≡ [] → (length ys == 0) ≡ false → trees_cmp (item_trees xs) (item_trees ys) ≡ r → Less ≡ r
items_end xs [] r ended more is = absurd (cc)
items_end xs (y ∷ ys) r ended more is = ap (λ zs. trees_cmp (item_trees zs) (item_trees (y ∷ ys))) (sym ended) ∙ is

pub pairs_end : (xs ys : List (Content × Content)) (r : Ordering) → xs ≡ [] → (length ys == 0) ≡ false → pairs_cmp (pair_trees xs) (pair_trees ys) ≡ r → Less ≡ r
pairs_end xs [] r ended more is = absurd (cc)
pairs_end xs (y ∷ ys) r ended more is = ap (λ zs. pairs_cmp (pair_trees zs) (pair_trees (y ∷ ys))) (sym ended) ∙ is

pub fields_end : (xs ys : List (List ℕ × Content)) (r : Ordering) → xs ≡ [] → (length ys == 0) ≡ false → fields_cmp (field_trees xs) (field_trees ys) ≡ r → Less ≡ r
fields_end xs [] r ended more is = absurd (cc)
fields_end xs (y ∷ ys) r ended more is = ap (λ zs. fields_cmp (field_trees zs) (field_trees (y ∷ ys))) (sym ended) ∙ is
