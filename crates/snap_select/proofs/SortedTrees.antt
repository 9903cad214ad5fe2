-- What sorting makes of a tree is the sorted tree.
use Rattle.snap_select.proofs.Prelude.{◌≡◌, List, ◌∷◌, ap, ◌∙◌, IsTotalOrder, on_total, ordered}
use Rattle.snap_content.specs.Tree as t
use Rattle.snap_content.specs.KeyLaws.{key_total}
use Rattle.snap_content.specs.Sorted.{Entry, InKeyOrder, ItemsRearranged, PairsRearranged, FieldsRearranged, Sorted}
use Rattle.snap_select.specs.SortedTree.{entry_cmp, sorted_tree, sorted_items, sorted_pairs, sorted_fields}
use Rattle.snap_select.proofs.StableSorts.{one_order}

entry_total : IsTotalOrder entry_cmp
entry_total = on_total (λ e. e.0) key_total

entries_are : (old new : List Entry) → InKeyOrder old new → new ≡ ordered entry_cmp old
entries_are old new h = one_order entry_cmp entry_total old new h.ascends h.keeps_ties

mutual
  pub tree_is : (c out : t.Tree) → Sorted c out → out ≡ sorted_tree c
  tree_is (t.some inner) out h = h.1 ∙ ap t.some (tree_is inner h.0 h.2)
  tree_is (t.newtype_struct name inner) out h = h.1 ∙ ap (λ x. t.newtype_struct name x) (tree_is inner h.0 h.2)
  tree_is (t.newtype_variant name index variant inner) out h = h.1 ∙ ap (λ x. t.newtype_variant name index variant x) (tree_is inner h.0 h.2)
  tree_is (t.seq items) out h = h.1 ∙ ap t.seq (items_are items h.0 h.2)
  tree_is (t.tuple items) out h = h.1 ∙ ap t.tuple (items_are items h.0 h.2)
  tree_is (t.tuple_struct name items) out h = h.1 ∙ ap (λ x. t.tuple_struct name x) (items_are items h.0 h.2)
  tree_is (t.tuple_variant name index variant items) out h = h.1 ∙ ap (λ x. t.tuple_variant name index variant x) (items_are items h.0 h.2)
  tree_is (t.map pairs) out h =
      h.2 ∙ ap (λ x. t.map (t.pairs_of x)) (entries_are (sorted_pairs pairs) h.1 (rw (pairs_are pairs h.0 h.3) at h.4))
  tree_is (t.struct name fields) out h = h.1 ∙ ap (λ x. t.struct name x) (fields_are fields h.0 h.2)
  tree_is (t.struct_variant name index variant fields) out h = h.1 ∙ ap (λ x. t.struct_variant name index variant x) (fields_are fields h.0 h.2)
  tree_is leaf out h = h

  items_are : (items out : t.Trees) → ItemsRearranged InKeyOrder items out → out ≡ sorted_items items
  items_are t.no_trees out h = h
  items_are (t.tree first rest) out h =
      h.2 ∙ ap (λ x. t.tree x h.1) (tree_is first h.0 h.3) ∙ ap (λ x. t.tree (sorted_tree first) x) (items_are rest h.1 h.4)

  pairs_are : (pairs : t.TreePairs) (out : List Entry) → PairsRearranged InKeyOrder pairs out → out ≡ sorted_pairs pairs
  pairs_are t.no_pairs out h = h
  pairs_are (t.pair key value rest) out h =
      h.3 ∙ ap (λ x. (x, h.1) ∷ h.2) (tree_is key h.0 h.4) ∙ ap (λ x. (sorted_tree key, x) ∷ h.2) (tree_is value h.1 h.5)
      ∙ ap (λ x. (sorted_tree key, sorted_tree value) ∷ x) (pairs_are rest h.2 h.6)

  fields_are : (fields out : t.TreeFields) → FieldsRearranged InKeyOrder fields out → out ≡ sorted_fields fields
  fields_are t.no_fields out h = h
  fields_are (t.field name value rest) out h =
      h.2 ∙ ap (λ x. t.field name x h.1) (tree_is value h.0 h.3) ∙ ap (λ x. t.field name (sorted_tree value) x) (fields_are rest h.1 h.4)
