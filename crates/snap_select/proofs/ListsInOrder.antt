-- Trees whose list is in order.
use Rattle.snap_select.proofs.Prelude.{◌≡◌, ℕ, List, [], ◌∷◌, map, refl, ap, IsTotalOrder, lists_total, then_total, on_total, nat_cmp_total, tree_cmp, tree_total, tree, item_list, pair_tree, pair_list, field_tree, field_list, Fields, Items, Pairs, Content, Seq, Map, Struct, StructVariant, ordered, items_in, pairs_in, fields_in, pair_cmp, field_cmp, in_order}
use Rattle.snap_content.specs.Tree as t
use Rattle.snap_content.proofs.Views.{tree-Seq, tree-Map, tree-Struct, tree-StructVariant}

pub pair_total : IsTotalOrder pair_cmp
pair_total = then_total (on_total (λ p. p.0) tree_total) (on_total (λ p. p.1) tree_total)

pub field_total : IsTotalOrder field_cmp
field_total = then_total (on_total (λ f. f.0) (lists_total nat_cmp_total)) (on_total (λ f. f.1) tree_total)

items_are : (xs : List t.Tree) → items_in (t.trees_of xs) ≡ xs
items_are [] = refl
items_are (x ∷ xs) = ap (λ y. x ∷ y) (items_are xs)

pairs_are : (ps : List (t.Tree × t.Tree)) → pairs_in (t.pairs_of ps) ≡ ps
pairs_are [] = refl
pairs_are (p ∷ ps) = ap (λ y. p ∷ y) (pairs_are ps)

fields_are : (fs : List (List ℕ × t.Tree)) → fields_in (t.fields_of fs) ≡ fs
fields_are [] = refl
fields_are (f ∷ fs) = ap (λ y. f ∷ y) (fields_are fs)

pub seq_in_order : (whole : Content) (list out : Items) → whole ≡ Seq list → map tree (item_list out) ≡ ordered tree_cmp (map tree (item_list list)) → tree (Seq out) ≡ in_order (tree whole)
seq_in_order whole list out is same =
    rw (is, tree-Seq list, tree-Seq out, items_are (map tree (item_list list)), same)

pub map_in_order : (whole : Content) (list out : Pairs) → whole ≡ Map list → map pair_tree (pair_list out) ≡ ordered pair_cmp (map pair_tree (pair_list list)) → tree (Map out) ≡ in_order (tree whole)
map_in_order whole list out is same =
    rw (is, tree-Map list, tree-Map out, pairs_are (map pair_tree (pair_list list)), same)

pub struct_in_order : (whole : Content) (name : List ℕ) (list out : Fields) → whole ≡ Struct name list
    → map field_tree (field_list out) ≡ ordered field_cmp (map field_tree (field_list list)) → tree (Struct name out) ≡ in_order (tree whole)
struct_in_order whole name list out is same =
    rw (is, tree-Struct name list, tree-Struct name out, fields_are (map field_tree (field_list list)), same)

pub struct_variant_in_order : (whole : Content) (name : List ℕ) (index : ℕ) (variant : List ℕ) (list out : Fields) → whole ≡ StructVariant name index variant list
    → map field_tree (field_list out) ≡ ordered field_cmp (map field_tree (field_list list)) → tree (StructVariant name index variant out) ≡ in_order (tree whole)
struct_variant_in_order whole name index variant list out is same =
    rw (is, tree-StructVariant name index variant list, tree-StructVariant name index variant out, fields_are (map field_tree (field_list list)), same)
