-- The tree whose maps are sorted by their keys. That sorting makes it is a law.
use Rattle.std.specs.Prelude.{List, [], ◌∷◌}
use Rattle.std.specs.declared.cmp.Ordering.{Ordering}
use Rattle.snap_content.specs.Tree as t
use Rattle.snap_content.specs.Keys.{key_cmp}
use Rattle.snap_content.specs.Sorted.{Entry}
use Rattle.snap_select.specs.InOrder.{ordered}

-- entries by their keys alone
abbrev pub entry_cmp : Entry → Entry → Ordering
entry_cmp e f = key_cmp e.0 f.0

abbrev mutual
  -- children first, keys and values alike, and then the entries of a map
  pub sorted_tree : t.Tree → t.Tree
  sorted_tree (t.some inner) = t.some (sorted_tree inner)
  sorted_tree (t.newtype_struct name inner) = t.newtype_struct name (sorted_tree inner)
  sorted_tree (t.newtype_variant name index variant inner) = t.newtype_variant name index variant (sorted_tree inner)
  sorted_tree (t.seq items) = t.seq (sorted_items items)
  sorted_tree (t.tuple items) = t.tuple (sorted_items items)
  sorted_tree (t.tuple_struct name items) = t.tuple_struct name (sorted_items items)
  sorted_tree (t.tuple_variant name index variant items) = t.tuple_variant name index variant (sorted_items items)
  sorted_tree (t.map pairs) = t.map (t.pairs_of (ordered entry_cmp (sorted_pairs pairs)))
  sorted_tree (t.struct name fields) = t.struct name (sorted_fields fields)
  sorted_tree (t.struct_variant name index variant fields) = t.struct_variant name index variant (sorted_fields fields)
  sorted_tree leaf = leaf

  pub sorted_items : t.Trees → t.Trees
  sorted_items t.no_trees = t.no_trees
  sorted_items (t.tree first rest) = t.tree (sorted_tree first) (sorted_items rest)

  pub sorted_pairs : t.TreePairs → List Entry
  sorted_pairs t.no_pairs = []
  sorted_pairs (t.pair key value rest) = (sorted_tree key, sorted_tree value) ∷ sorted_pairs rest

  pub sorted_fields : t.TreeFields → t.TreeFields
  sorted_fields t.no_fields = t.no_fields
  sorted_fields (t.field name value rest) = t.field name (sorted_tree value) (sorted_fields rest)
