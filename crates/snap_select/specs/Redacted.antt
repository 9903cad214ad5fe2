-- The redacted tree, part by part. That it is what a redaction makes is a law.
use Rattle.std.specs.Prelude.{ℕ, suc, List, [], ◌∷◌, ◌++◌, if◌then◌else◌, codes}
use Rattle.snap_content.specs.Tree as t
use Rattle.snap_select.specs.Matching.{Step, under_key, into_field, to_item, path_match}
use Rattle.snap_select.specs.Positions.{count_of}
use Rattle.snap_select.specs.Parts.{Parts}

-- what is put in place of the tree where the path is matched, else the other
abbrev pub put_or : Parts → (t.Tree → t.Tree) → List Step → t.Tree → t.Tree → t.Tree
put_or ss put path c other = if path_match ss path then put c else other

abbrev mutual
  -- the tree at a path that isn't matched
  pub inside : Parts → (t.Tree → t.Tree) → List Step → t.Tree → t.Tree
  inside ss put path (t.some inner) = t.some (put_or ss put path inner (inside ss put path inner))
  inside ss put path (t.newtype_struct name inner) = t.newtype_struct name (put_or ss put path inner (inside ss put path inner))
  inside ss put path (t.newtype_variant name index variant inner) =
      t.newtype_variant name index variant (put_or ss put path inner (inside ss put path inner))
  inside ss put path (t.seq items) = t.seq (redacted_items ss put path (count_of items) 0 items)
  inside ss put path (t.tuple items) = t.tuple (redacted_items ss put path (count_of items) 0 items)
  inside ss put path (t.tuple_struct name items) = t.tuple_struct name (redacted_items ss put path (count_of items) 0 items)
  inside ss put path (t.tuple_variant name index variant items) =
      t.tuple_variant name index variant (redacted_items ss put path (count_of items) 0 items)
  inside ss put path (t.map pairs) = t.map (redacted_pairs ss put path pairs)
  inside ss put path (t.struct name fields) = t.struct name (redacted_fields ss put path fields)
  inside ss put path (t.struct_variant name index variant fields) = t.struct_variant name index variant (redacted_fields ss put path fields)
  inside ss put path other = other

  pub redacted_items : Parts → (t.Tree → t.Tree) → List Step → ℕ → ℕ → t.Trees → t.Trees
  redacted_items ss put path total index t.no_trees = t.no_trees
  redacted_items ss put path total index (t.tree first rest) =
      t.tree (put_or ss put (path ++ to_item index total ∷ []) first (inside ss put (path ++ to_item index total ∷ []) first))
      (redacted_items ss put path total (suc index) rest)

  pub redacted_pairs : Parts → (t.Tree → t.Tree) → List Step → t.TreePairs → t.TreePairs
  redacted_pairs ss put path t.no_pairs = t.no_pairs
  redacted_pairs ss put path (t.pair key value rest) =
      t.pair (put_or ss put (path ++ into_field (codes "$key") ∷ []) key (inside ss put (path ++ into_field (codes "$key") ∷ []) key))
      (put_or ss put (path ++ under_key key ∷ []) value (inside ss put (path ++ under_key key ∷ []) value))
      (redacted_pairs ss put path rest)

  pub redacted_fields : Parts → (t.Tree → t.Tree) → List Step → t.TreeFields → t.TreeFields
  redacted_fields ss put path t.no_fields = t.no_fields
  redacted_fields ss put path (t.field name value rest) =
      t.field name (put_or ss put (path ++ into_field name ∷ []) value (inside ss put (path ++ into_field name ∷ []) value))
      (redacted_fields ss put path rest)

-- the redacted tree, for a tree at a path, where what is put follows from the value alone
abbrev pub redacted : Parts → (t.Tree → t.Tree) → List Step → t.Tree → t.Tree
redacted ss put path c = put_or ss put path c (inside ss put path c)
