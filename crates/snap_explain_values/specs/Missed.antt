-- Which redactions hit nothing in a tree.
use Rattle.std.specs.Prelude.{◌||◌, ℕ, suc, Bool, false, not, List, [], ◌∷◌, ◌++◌, Option, codes, position}
use Rattle.snap_content.specs.Tree as t
use Rattle.snap_select.specs.Matching.{Step, under_key, into_field, to_item, path_match}
use Rattle.snap_select.specs.Parts.{Parts}
use Rattle.snap_select.specs.Positions.{count_of}
use Rattle.snap_assert_settings.specs.Replaced.{ReplacementView}

abbrev mutual
  -- the selector matches the path of something in the tree, which stands at a path itself
  pub hits_inside : Parts → List Step → t.Tree → Bool
  hits_inside ss path (t.some inner) = path_match ss path || hits_inside ss path inner
  hits_inside ss path (t.newtype_struct name inner) = path_match ss path || hits_inside ss path inner
  hits_inside ss path (t.newtype_variant name index variant inner) = path_match ss path || hits_inside ss path inner
  hits_inside ss path (t.seq items) = hits_items ss path (count_of items) 0 items
  hits_inside ss path (t.tuple items) = hits_items ss path (count_of items) 0 items
  hits_inside ss path (t.tuple_struct name items) = hits_items ss path (count_of items) 0 items
  hits_inside ss path (t.tuple_variant name index variant items) = hits_items ss path (count_of items) 0 items
  hits_inside ss path (t.map pairs) = hits_pairs ss path pairs
  hits_inside ss path (t.struct name fields) = hits_fields ss path fields
  hits_inside ss path (t.struct_variant name index variant fields) = hits_fields ss path fields
  hits_inside ss path other = false

  -- the path of one of the items from a position on, in a list of so many, or of something in one
  pub hits_items : Parts → List Step → ℕ → ℕ → t.Trees → Bool
  hits_items ss path total index t.no_trees = false
  hits_items ss path total index (t.tree first rest) =
      (path_match ss (path ++ to_item index total ∷ []) || hits_inside ss (path ++ to_item index total ∷ []) first) || hits_items ss path total (suc index) rest

  -- that of a key, which stands in the field `$key`, of a value, which stands under its key, or of something in them
  pub hits_pairs : Parts → List Step → t.TreePairs → Bool
  hits_pairs ss path t.no_pairs = false
  hits_pairs ss path (t.pair key value rest) =
      (path_match ss (path ++ into_field (codes "$key") ∷ []) || hits_inside ss (path ++ into_field (codes "$key") ∷ []) key)
      || ((path_match ss (path ++ under_key key ∷ []) || hits_inside ss (path ++ under_key key ∷ []) value) || hits_pairs ss path rest)

  -- that of the value of a field, or of something in one
  pub hits_fields : Parts → List Step → t.TreeFields → Bool
  hits_fields ss path t.no_fields = false
  hits_fields ss path (t.field name value rest) =
      (path_match ss (path ++ into_field name ∷ []) || hits_inside ss (path ++ into_field name ∷ []) value) || hits_fields ss path rest

-- the selector matches the path of the tree, or of something in it
abbrev pub hits : Parts → List Step → t.Tree → Bool
hits ss path c = path_match ss path || hits_inside ss path c

-- the same of one of the keys of pairs, which all stand at this path
abbrev pub hits_keys : Parts → List Step → t.TreePairs → Bool
hits_keys ss path t.no_pairs = false
hits_keys ss path (t.pair key value rest) = hits ss path key || hits_keys ss path rest

-- the same of one of their values, each under its key
abbrev pub hits_values : Parts → List Step → t.TreePairs → Bool
hits_values ss path t.no_pairs = false
hits_values ss path (t.pair key value rest) = hits ss (path ++ under_key key ∷ []) value || hits_values ss path rest

-- the position of the first redaction that hits nothing in the tree
abbrev pub first_missed : List ReplacementView → t.Tree → Option ℕ
first_missed rs c = position (λ r. not (hits r.parts [] c)) rs
