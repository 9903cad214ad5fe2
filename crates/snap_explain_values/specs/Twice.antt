-- Whether a map of a tree has a key twice.
use Rattle.std.specs.Prelude.{◌||◌, Bool, false, List, [], ◌∷◌}
use Rattle.std.specs.List.{list_any}
use Rattle.std.specs.Ordering.{is_eq}
use Rattle.snap_content.specs.Orders.{tree_cmp}
use Rattle.snap_content.specs.Tree as t

-- both are one tree; that the order tells this is a law
abbrev pub is_same : t.Tree → t.Tree → Bool
is_same a b = is_eq (tree_cmp a b)

-- one of the trees is this one
abbrev pub stands_in : t.Tree → List t.Tree → Bool
stands_in a trees = list_any (is_same a) trees

-- one of the trees stands there once more after itself
abbrev pub has_twice : List t.Tree → Bool
has_twice [] = false
has_twice (first ∷ rest) = stands_in first rest || has_twice rest

-- the keys of pairs, in their order
abbrev pub keys_in : t.TreePairs → List t.Tree
keys_in t.no_pairs = []
keys_in (t.pair key value rest) = key ∷ keys_in rest

abbrev mutual
  -- the tree is a map that has a key twice, or one of the trees in it has such a map
  pub has_key_twice : t.Tree → Bool
  has_key_twice (t.some inner) = has_key_twice inner
  has_key_twice (t.newtype_struct name inner) = has_key_twice inner
  has_key_twice (t.newtype_variant name index variant inner) = has_key_twice inner
  has_key_twice (t.seq items) = item_has_twice items
  has_key_twice (t.tuple items) = item_has_twice items
  has_key_twice (t.tuple_struct name items) = item_has_twice items
  has_key_twice (t.tuple_variant name index variant items) = item_has_twice items
  has_key_twice (t.map pairs) = has_twice (keys_in pairs) || pair_has_twice pairs
  has_key_twice (t.struct name fields) = field_has_twice fields
  has_key_twice (t.struct_variant name index variant fields) = field_has_twice fields
  has_key_twice other = false

  -- one of the items has such a map
  pub item_has_twice : t.Trees → Bool
  item_has_twice t.no_trees = false
  item_has_twice (t.tree first rest) = has_key_twice first || item_has_twice rest

  -- one of the pairs has, in its key or in its value
  pub pair_has_twice : t.TreePairs → Bool
  pair_has_twice t.no_pairs = false
  pair_has_twice (t.pair key value rest) = (has_key_twice key || has_key_twice value) || pair_has_twice rest

  -- the value of one of the fields has
  pub field_has_twice : t.TreeFields → Bool
  field_has_twice t.no_fields = false
  field_has_twice (t.field name value rest) = has_key_twice value || field_has_twice rest
