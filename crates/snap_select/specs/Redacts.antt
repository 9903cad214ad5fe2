-- What a redaction makes of a tree.
use Rattle.std.specs.Prelude.{◌≡◌, ℕ, true, false, List, [], ◌∷◌, ◌++◌, Some}
use Rattle.snap_content.specs.Tree as t
use Rattle.snap_select.specs.Matching.{Step, path_match}
use Rattle.snap_select.specs.Positions.{part_at, path_at}
use Rattle.snap_select.specs.Parts.{Parts}
use Rattle.snap_select.specs.Put.{Allowed}

-- a position is hit where its path is matched, and the path of no shorter front of it is
pub record IsHit (ss : Parts) (path : List Step) (c : t.Tree) (position : List ℕ) : Type 0 where
  pub steps : List Step
  pub is : path_at path c position ≡ Some steps
  pub matched : path_match ss steps ≡ true
  pub first : (front : List ℕ) (k : ℕ) (rest : List ℕ) (shorter : List Step) → position ≡ front ++ k ∷ rest → path_at path c front ≡ Some shorter → path_match ss shorter ≡ false

-- no position at it or above it is hit
abbrev pub IsUntouched : Parts → List Step → t.Tree → List ℕ → Type 0
IsUntouched ss path c position = (front rest : List ℕ) → position ≡ front ++ rest → ¬ IsHit ss path c front

-- the tree with a unit for each of its children: its variant, names, index and number of children, and its value
-- where it has no children
abbrev pub units : t.Trees → t.Trees
units t.no_trees = t.no_trees
units (t.tree first rest) = t.tree t.unit (units rest)

abbrev pub pair_units : t.TreePairs → t.TreePairs
pair_units t.no_pairs = t.no_pairs
pair_units (t.pair key value rest) = t.pair t.unit t.unit (pair_units rest)

abbrev pub field_units : t.TreeFields → t.TreeFields
field_units t.no_fields = t.no_fields
field_units (t.field name value rest) = t.field name t.unit (field_units rest)

abbrev pub node : t.Tree → t.Tree
node (t.some inner) = t.some t.unit
node (t.newtype_struct name inner) = t.newtype_struct name t.unit
node (t.newtype_variant name index variant inner) = t.newtype_variant name index variant t.unit
node (t.seq items) = t.seq (units items)
node (t.tuple items) = t.tuple (units items)
node (t.tuple_struct name items) = t.tuple_struct name (units items)
node (t.tuple_variant name index variant items) = t.tuple_variant name index variant (units items)
node (t.map pairs) = t.map (pair_units pairs)
node (t.struct name fields) = t.struct name (field_units fields)
node (t.struct_variant name index variant fields) = t.struct_variant name index variant (field_units fields)
node other = other

-- the same node stands at the position
pub record IsKept (out : t.Tree) (position : List ℕ) (part : t.Tree) : Type 0 where
  pub now : t.Tree
  pub is : part_at out position ≡ Some now
  pub same : node now ≡ node part

-- of the tree at that path: each hit position holds a tree that is allowed in place of its part, and each untouched one its node
pub record RedactsAt (ss : Parts) (allows : Allowed) (path : List Step) (c out : t.Tree) : Type 0 where
  pub replaced : (position : List ℕ) (part : t.Tree) → part_at c position ≡ Some part → (hit : IsHit ss path c position)
      → (new : t.Tree) × (part_at out position ≡ Some new) × allows part hit.steps new
  pub kept : (position : List ℕ) (part : t.Tree) → part_at c position ≡ Some part → IsUntouched ss path c position → IsKept out position part

-- a redaction of a whole tree: each hit position holds a tree that may be put in place of the part that was there, and each other one
-- outside of those its node
pub record Redacts (ss : Parts) (allows : Allowed) (c out : t.Tree) : Type 0 where
  pub at_root : RedactsAt ss allows [] c out
