-- Lists in order, and trees whose list is.
use Rattle.std.specs.Prelude.{ℕ, List, [], ◌∷◌, if◌then◌else◌}
use Rattle.std.specs.declared.cmp.Ordering.{Ordering}
use Rattle.std.specs.List.Sorted.{IsSortedBy, IsStableBy}
use Rattle.std.specs.Ordering.{is_lt, ordering_then}
use Rattle.snap_content.specs.Tree as t
use Rattle.snap_content.specs.Orders.{text_cmp, tree_cmp}

-- an element after those that are less
abbrev pub put_in : {X : Type 0} → (X → X → Ordering) → X → List X → List X
put_in cmp x [] = x ∷ []
put_in cmp x (y ∷ ys) = if is_lt (cmp y x) then y ∷ put_in cmp x ys else x ∷ y ∷ ys

-- each element put into the order of those that stood after it, so that equal ones stay as they stood.
-- That this is the one outcome of a stable sort is a law.
abbrev pub ordered : {X : Type 0} → (X → X → Ordering) → List X → List X
ordered cmp [] = []
ordered cmp (x ∷ xs) = put_in cmp x (ordered cmp xs)

-- what a stable sort promises: none is less than the one before it, and those that are neither less nor greater than another
-- stand as they stood
pub record IsStableSort {X : Type 0} (cmp : X → X → Ordering) (old new : List X) : Type 0 where
  pub ascends : IsSortedBy (λ x y. is_lt (cmp x y)) new
  pub keeps_ties : IsStableBy (λ x y. is_lt (cmp x y)) old new

-- the elements of a tree's list
abbrev pub items_in : t.Trees → List t.Tree
items_in t.no_trees = []
items_in (t.tree first rest) = first ∷ items_in rest

abbrev pub pairs_in : t.TreePairs → List (t.Tree × t.Tree)
pairs_in t.no_pairs = []
pairs_in (t.pair key value rest) = (key, value) ∷ pairs_in rest

abbrev pub fields_in : t.TreeFields → List (List ℕ × t.Tree)
fields_in t.no_fields = []
fields_in (t.field name value rest) = (name, value) ∷ fields_in rest

-- pairs by their keys, then by their values; fields by their names, then by their values
abbrev pub pair_cmp : t.Tree × t.Tree → t.Tree × t.Tree → Ordering
pair_cmp p q = ordering_then (tree_cmp p.0 q.0) (tree_cmp p.1 q.1)

-- fields by their names, then by their values
abbrev pub field_cmp : List ℕ × t.Tree → List ℕ × t.Tree → Ordering
field_cmp f g = ordering_then (text_cmp f.0 g.0) (tree_cmp f.1 g.1)

-- the tree with its list in order, after its wrappers: the items of a list, the pairs of a map, the fields of a struct.
-- Tuples and all else are as they are, and so is what stands below.
abbrev pub in_order : t.Tree → t.Tree
in_order (t.some inner) = t.some (in_order inner)
in_order (t.newtype_struct name inner) = t.newtype_struct name (in_order inner)
in_order (t.newtype_variant name index variant inner) = t.newtype_variant name index variant (in_order inner)
in_order (t.seq items) = t.seq (t.trees_of (ordered tree_cmp (items_in items)))
in_order (t.map pairs) = t.map (t.pairs_of (ordered pair_cmp (pairs_in pairs)))
in_order (t.struct name fields) = t.struct name (t.fields_of (ordered field_cmp (fields_in fields)))
in_order (t.struct_variant name index variant fields) = t.struct_variant name index variant (t.fields_of (ordered field_cmp (fields_in fields)))
in_order other = other
