-- The redacted tree, part by part, where one of several trees may be put in place of a value.
use Rattle.std.specs.Prelude.{◌≡◌, ℕ, suc, MatchBool, List, [], ◌∷◌, ◌++◌, codes}
use Rattle.snap_content.specs.Tree as t
use Rattle.snap_select.specs.Matching.{Step, under_key, into_field, to_item, path_match}
use Rattle.snap_select.specs.Parts.{Parts}
use Rattle.snap_select.specs.Positions.{count_of}
use Rattle.snap_select.specs.Put.{Allowed}

-- an allowed tree where the path is matched, else what is said
abbrev pub PutOr : Parts → Allowed → List Step → t.Tree → t.Tree → Type 0 → Type 0
PutOr ss allows path c out Else = MatchBool (path_match ss path) (allows c path out) Else

abbrev mutual
  -- of the tree at a path that isn't matched
  pub Inside : Parts → Allowed → List Step → t.Tree → t.Tree → Type 0
  Inside ss allows path (t.some inner) out = (new : t.Tree) × (out ≡ t.some new) × PutOr ss allows path inner new (Inside ss allows path inner new)
  Inside ss allows path (t.newtype_struct name inner) out =
      (new : t.Tree) × (out ≡ t.newtype_struct name new) × PutOr ss allows path inner new (Inside ss allows path inner new)
  Inside ss allows path (t.newtype_variant name index variant inner) out =
      (new : t.Tree) × (out ≡ t.newtype_variant name index variant new) × PutOr ss allows path inner new (Inside ss allows path inner new)
  Inside ss allows path (t.seq items) out = (new : t.Trees) × (out ≡ t.seq new) × ItemsRedacted ss allows path (count_of items) 0 items new
  Inside ss allows path (t.tuple items) out = (new : t.Trees) × (out ≡ t.tuple new) × ItemsRedacted ss allows path (count_of items) 0 items new
  Inside ss allows path (t.tuple_struct name items) out =
      (new : t.Trees) × (out ≡ t.tuple_struct name new) × ItemsRedacted ss allows path (count_of items) 0 items new
  Inside ss allows path (t.tuple_variant name index variant items) out =
      (new : t.Trees) × (out ≡ t.tuple_variant name index variant new) × ItemsRedacted ss allows path (count_of items) 0 items new
  Inside ss allows path (t.map pairs) out = (new : t.TreePairs) × (out ≡ t.map new) × PairsRedacted ss allows path pairs new
  Inside ss allows path (t.struct name fields) out = (new : t.TreeFields) × (out ≡ t.struct name new) × FieldsRedacted ss allows path fields new
  Inside ss allows path (t.struct_variant name index variant fields) out =
      (new : t.TreeFields) × (out ≡ t.struct_variant name index variant new) × FieldsRedacted ss allows path fields new
  Inside ss allows path other out = out ≡ other

  -- the items from a position on, in a list of so many
  pub ItemsRedacted : Parts → Allowed → List Step → ℕ → ℕ → t.Trees → t.Trees → Type 0
  ItemsRedacted ss allows path total index t.no_trees out = out ≡ t.no_trees
  ItemsRedacted ss allows path total index (t.tree first rest) out =
      (new : t.Tree) × (more : t.Trees) × (out ≡ t.tree new more)
      × PutOr ss allows (path ++ to_item index total ∷ []) first new (Inside ss allows (path ++ to_item index total ∷ []) first new)
      × ItemsRedacted ss allows path total (suc index) rest more

  -- each key under the field `$key`, and its value under the key as it was
  pub PairsRedacted : Parts → Allowed → List Step → t.TreePairs → t.TreePairs → Type 0
  PairsRedacted ss allows path t.no_pairs out = out ≡ t.no_pairs
  PairsRedacted ss allows path (t.pair key value rest) out =
      (new_key : t.Tree) × (new_value : t.Tree) × (more : t.TreePairs) × (out ≡ t.pair new_key new_value more)
      × PutOr ss allows (path ++ into_field (codes "$key") ∷ []) key new_key (Inside ss allows (path ++ into_field (codes "$key") ∷ []) key new_key)
      × PutOr ss allows (path ++ under_key key ∷ []) value new_value (Inside ss allows (path ++ under_key key ∷ []) value new_value)
      × PairsRedacted ss allows path rest more

  pub FieldsRedacted : Parts → Allowed → List Step → t.TreeFields → t.TreeFields → Type 0
  FieldsRedacted ss allows path t.no_fields out = out ≡ t.no_fields
  FieldsRedacted ss allows path (t.field name value rest) out =
      (new : t.Tree) × (more : t.TreeFields) × (out ≡ t.field name new more)
      × PutOr ss allows (path ++ into_field name ∷ []) value new (Inside ss allows (path ++ into_field name ∷ []) value new)
      × FieldsRedacted ss allows path rest more

-- of the tree at a path
abbrev pub RedactedAt : Parts → Allowed → List Step → t.Tree → t.Tree → Type 0
RedactedAt ss allows path c out = PutOr ss allows path c out (Inside ss allows path c out)

-- a redaction of a whole tree, part by part
pub record IsRedacted (ss : Parts) (allows : Allowed) (c out : t.Tree) : Type 0 where
  pub parts : RedactedAt ss allows [] c out

-- where the tree that is put follows from the value alone
abbrev pub only : (t.Tree → t.Tree) → Allowed
only put c steps out = out ≡ put c
