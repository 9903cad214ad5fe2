-- The order of trees: by the places of their variants, then by their fields from left to right.
use Rattle.std.specs.Prelude.{ℕ, List}
use Rattle.std.specs.declared.cmp.Ordering.{Ordering}
use Rattle.std.specs.declared.cmp.Ordering.TheVariants.{Less, Equal, Greater}
use Rattle.std.specs.Ordering.{ordering_then, nat_cmp, int_cmp, bool_cmp}
use Rattle.std.specs.Cmp.Lexicographic.{slice_cmp}
use Rattle.snap_content.specs.Tree.{Tree, bool, u8, u16, u32, u64, u128, i8, i16, i32, i64, i128, char, string, bytes, none, some, unit, unit_struct, unit_variant, newtype_struct, newtype_variant, seq, tuple, tuple_struct, tuple_variant, map, struct, struct_variant, Trees, no_trees, tree, TreePairs, no_pairs, pair, TreeFields, no_fields, field}

-- where a tree's variant stands among the 28
abbrev pub place : Tree → ℕ
place (bool _) = 0
place (u8 _) = 1
place (u16 _) = 2
place (u32 _) = 3
place (u64 _) = 4
place (u128 _) = 5
place (i8 _) = 6
place (i16 _) = 7
place (i32 _) = 8
place (i64 _) = 9
place (i128 _) = 10
place (char _) = 11
place (string _) = 12
place (bytes _) = 13
place none = 14
place (some _) = 15
place unit = 16
place (unit_struct _) = 17
place (unit_variant _ _ _) = 18
place (newtype_struct _ _) = 19
place (newtype_variant _ _ _ _) = 20
place (seq _) = 21
place (tuple _) = 22
place (tuple_struct _ _) = 23
place (tuple_variant _ _ _ _) = 24
place (map _) = 25
place (struct _ _) = 26
place (struct_variant _ _ _ _) = 27

-- texts and bytes element by element, a beginning before what goes on
abbrev pub text_cmp : List ℕ → List ℕ → Ordering
text_cmp = slice_cmp nat_cmp

-- the order of trees: by the places of their variants, then by their fields from left to right; lists element by element, a beginning
-- before what goes on
abbrev mutual
  pub tree_cmp : Tree → Tree → Ordering
  tree_cmp (bool b) (bool b') = bool_cmp b b'
  tree_cmp (u8 n) (u8 n') = nat_cmp n n'
  tree_cmp (u16 n) (u16 n') = nat_cmp n n'
  tree_cmp (u32 n) (u32 n') = nat_cmp n n'
  tree_cmp (u64 n) (u64 n') = nat_cmp n n'
  tree_cmp (u128 n) (u128 n') = nat_cmp n n'
  tree_cmp (i8 z) (i8 z') = int_cmp z z'
  tree_cmp (i16 z) (i16 z') = int_cmp z z'
  tree_cmp (i32 z) (i32 z') = int_cmp z z'
  tree_cmp (i64 z) (i64 z') = int_cmp z z'
  tree_cmp (i128 z) (i128 z') = int_cmp z z'
  tree_cmp (char n) (char n') = nat_cmp n n'
  tree_cmp (string s) (string s') = text_cmp s s'
  tree_cmp (bytes s) (bytes s') = text_cmp s s'
  tree_cmp none none = Equal
  tree_cmp (some x) (some x') = tree_cmp x x'
  tree_cmp unit unit = Equal
  tree_cmp (unit_struct name) (unit_struct other_name) = text_cmp name other_name
  tree_cmp (unit_variant name index variant) (unit_variant other_name other_index other_variant) =
      ordering_then (text_cmp name other_name) (ordering_then (nat_cmp index other_index) (text_cmp variant other_variant))
  tree_cmp (newtype_struct name x) (newtype_struct other_name x') = ordering_then (text_cmp name other_name) (tree_cmp x x')
  tree_cmp (newtype_variant name index variant x) (newtype_variant other_name other_index other_variant x') =
      ordering_then (text_cmp name other_name) (ordering_then (nat_cmp index other_index) (ordering_then (text_cmp variant other_variant) (tree_cmp x x')))
  tree_cmp (seq xs) (seq xs') = trees_cmp xs xs'
  tree_cmp (tuple xs) (tuple xs') = trees_cmp xs xs'
  tree_cmp (tuple_struct name xs) (tuple_struct other_name xs') = ordering_then (text_cmp name other_name) (trees_cmp xs xs')
  tree_cmp (tuple_variant name index variant xs) (tuple_variant other_name other_index other_variant xs') =
      ordering_then (text_cmp name other_name) (ordering_then (nat_cmp index other_index) (ordering_then (text_cmp variant other_variant) (trees_cmp xs xs')))
  tree_cmp (map ps) (map ps') = pairs_cmp ps ps'
  tree_cmp (struct name fs) (struct other_name fs') = ordering_then (text_cmp name other_name) (fields_cmp fs fs')
  tree_cmp (struct_variant name index variant fs) (struct_variant other_name other_index other_variant fs') =
      ordering_then (text_cmp name other_name) (ordering_then (nat_cmp index other_index) (ordering_then (text_cmp variant other_variant) (fields_cmp fs fs')))
  tree_cmp x y = nat_cmp (place x) (place y)

  pub trees_cmp : Trees → Trees → Ordering
  trees_cmp no_trees no_trees = Equal
  trees_cmp no_trees (tree y ys) = Less
  trees_cmp (tree x xs) no_trees = Greater
  trees_cmp (tree x xs) (tree y ys) = ordering_then (tree_cmp x y) (trees_cmp xs ys)

  pub pairs_cmp : TreePairs → TreePairs → Ordering
  pairs_cmp no_pairs no_pairs = Equal
  pairs_cmp no_pairs (pair k v ps) = Less
  pairs_cmp (pair k v ps) no_pairs = Greater
  pairs_cmp (pair k v ps) (pair l w qs) = ordering_then (ordering_then (tree_cmp k l) (tree_cmp v w)) (pairs_cmp ps qs)

  pub fields_cmp : TreeFields → TreeFields → Ordering
  fields_cmp no_fields no_fields = Equal
  fields_cmp no_fields (field other_name w gs) = Less
  fields_cmp (field name v fs) no_fields = Greater
  fields_cmp (field name v fs) (field other_name w gs) = ordering_then (ordering_then (text_cmp name other_name) (tree_cmp v w)) (fields_cmp fs gs)
