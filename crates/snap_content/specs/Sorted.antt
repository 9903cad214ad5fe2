-- Trees whose maps are sorted by their keys.
use Rattle.std.specs.Prelude.{◌≡◌, ◌⊎◌, List, [], ◌∷◌}
use Rattle.std.specs.List.Sorted.{IsPermutation, IsSortedByKey, IsStableByKey}
use Rattle.snap_content.specs.Tree as t
use Rattle.snap_content.specs.Keys.{key_cmp}

-- an entry of a map: its key and its value
abbrev pub Entry : Type 0
Entry = t.Tree × t.Tree

-- a stable sort by the keys: the same entries, which ascend, and of which those with equal keys stand as they stood
pub record InKeyOrder (old new : List Entry) : Type 0 where
  pub same_entries : IsPermutation old new
  pub ascends : IsSortedByKey (λ e. e.0) key_cmp new
  pub keeps_ties : IsStableByKey (λ e. e.0) key_cmp old new

-- the same, or nothing was done
abbrev pub AsBeforeOrInKeyOrder : List Entry → List Entry → Type 0
AsBeforeOrInKeyOrder old new = (new ≡ old) ⊎ InKeyOrder old new

abbrev mutual
  -- a tree whose maps are put in another order: the children first, keys and values alike, and then, by the relation R,
  -- the entries that a map has by then; all else is as before
  pub Rearranged : (List Entry → List Entry → Type 0) → t.Tree → t.Tree → Type 0
  Rearranged R (t.some inner) out = (new : t.Tree) × (out ≡ t.some new) × Rearranged R inner new
  Rearranged R (t.newtype_struct name inner) out = (new : t.Tree) × (out ≡ t.newtype_struct name new) × Rearranged R inner new
  Rearranged R (t.newtype_variant name index variant inner) out =
      (new : t.Tree) × (out ≡ t.newtype_variant name index variant new) × Rearranged R inner new
  Rearranged R (t.seq items) out = (new : t.Trees) × (out ≡ t.seq new) × ItemsRearranged R items new
  Rearranged R (t.tuple items) out = (new : t.Trees) × (out ≡ t.tuple new) × ItemsRearranged R items new
  Rearranged R (t.tuple_struct name items) out = (new : t.Trees) × (out ≡ t.tuple_struct name new) × ItemsRearranged R items new
  Rearranged R (t.tuple_variant name index variant items) out =
      (new : t.Trees) × (out ≡ t.tuple_variant name index variant new) × ItemsRearranged R items new
  Rearranged R (t.map pairs) out =
      (inside : List Entry) × (new : List Entry) × (out ≡ t.map (t.pairs_of new)) × PairsRearranged R pairs inside × R inside new
  Rearranged R (t.struct name fields) out = (new : t.TreeFields) × (out ≡ t.struct name new) × FieldsRearranged R fields new
  Rearranged R (t.struct_variant name index variant fields) out =
      (new : t.TreeFields) × (out ≡ t.struct_variant name index variant new) × FieldsRearranged R fields new
  Rearranged R leaf out = out ≡ leaf

  pub ItemsRearranged : (List Entry → List Entry → Type 0) → t.Trees → t.Trees → Type 0
  ItemsRearranged R t.no_trees out = out ≡ t.no_trees
  ItemsRearranged R (t.tree first rest) out =
      (new : t.Tree) × (more : t.Trees) × (out ≡ t.tree new more) × Rearranged R first new × ItemsRearranged R rest more

  pub PairsRearranged : (List Entry → List Entry → Type 0) → t.TreePairs → List Entry → Type 0
  PairsRearranged R t.no_pairs out = out ≡ []
  PairsRearranged R (t.pair key value rest) out =
      (new_key : t.Tree) × (new_value : t.Tree) × (more : List Entry) × (out ≡ (new_key, new_value) ∷ more)
      × Rearranged R key new_key × Rearranged R value new_value × PairsRearranged R rest more

  pub FieldsRearranged : (List Entry → List Entry → Type 0) → t.TreeFields → t.TreeFields → Type 0
  FieldsRearranged R t.no_fields out = out ≡ t.no_fields
  FieldsRearranged R (t.field name value rest) out =
      (new : t.Tree) × (more : t.TreeFields) × (out ≡ t.field name new more) × Rearranged R value new × FieldsRearranged R rest more

-- a sorted tree: each child is sorted, keys and values alike, and the entries of each map are in the order of their keys
abbrev pub Sorted : t.Tree → t.Tree → Type 0
Sorted = Rearranged InKeyOrder

-- some maps are sorted, and the others stand as before
abbrev pub PartlySorted : t.Tree → t.Tree → Type 0
PartlySorted = Rearranged AsBeforeOrInKeyOrder
