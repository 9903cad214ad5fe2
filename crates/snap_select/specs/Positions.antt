-- Where a part of a tree stands, and the steps that lead to it.
use Rattle.std.specs.Prelude.{ℕ, suc, List, [], ◌∷◌, ◌++◌, Option, Some, option_and_then, slice_get, codes}
use Rattle.snap_content.specs.Tree as t
use Rattle.snap_select.specs.Matching.{Step, under_key, into_field, to_item}

-- a part right below a tree, with the steps into it: one, or none
pub record Child : Type 0 where
  pub steps : List Step
  pub part : t.Tree

abbrev pub wrapped : t.Tree → List Child
wrapped inner = record { steps = []; part = inner } ∷ []

abbrev pub count_of : t.Trees → ℕ
count_of t.no_trees = 0
count_of (t.tree first rest) = suc (count_of rest)

-- the items from a position on, in a list of so many
abbrev pub item_children : ℕ → ℕ → t.Trees → List Child
item_children total index t.no_trees = []
item_children total index (t.tree first rest) = record { steps = to_item index total ∷ []; part = first } ∷ item_children total (suc index) rest

-- each key under the field `$key`, and its value under the key
abbrev pub pair_children : t.TreePairs → List Child
pair_children t.no_pairs = []
pair_children (t.pair key value rest) =
    record { steps = into_field (codes "$key") ∷ []; part = key } ∷ record { steps = under_key key ∷ []; part = value } ∷ pair_children rest

abbrev pub field_children : t.TreeFields → List Child
field_children t.no_fields = []
field_children (t.field name value rest) = record { steps = into_field name ∷ []; part = value } ∷ field_children rest

-- the parts right below a tree: wrappers and names of variants add no step
abbrev pub children : t.Tree → List Child
children (t.some inner) = wrapped inner
children (t.newtype_struct name inner) = wrapped inner
children (t.newtype_variant name index variant inner) = wrapped inner
children (t.seq items) = item_children (count_of items) 0 items
children (t.tuple items) = item_children (count_of items) 0 items
children (t.tuple_struct name items) = item_children (count_of items) 0 items
children (t.tuple_variant name index variant items) = item_children (count_of items) 0 items
children (t.map pairs) = pair_children pairs
children (t.struct name fields) = field_children fields
children (t.struct_variant name index variant fields) = field_children fields
children other = []

-- a position is a list of numbers of children: the part of the tree that stands there
abbrev pub part_at : t.Tree → List ℕ → Option t.Tree
part_at c [] = Some c
part_at c (k ∷ ks) = option_and_then (λ child. part_at child.part ks) (slice_get (children c) k)

-- and the steps to it, after those that lead to the tree
abbrev pub path_at : List Step → t.Tree → List ℕ → Option (List Step)
path_at path c [] = Some path
path_at path c (k ∷ ks) = option_and_then (λ child. path_at (path ++ child.steps) child.part ks) (slice_get (children c) k)
