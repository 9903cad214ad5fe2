-- Paths in trees: what stands at the end of one, and the tree with another value there, or without it.
use Rattle.std.specs.Prelude.{ℕ, zero, suc, Bool, false, List, [], ◌∷◌, Option, None, Some, option_map, option_and_then, if◌then◌else◌}
use Rattle.std.specs.Str.{bytes_eq}
use Rattle.snap_content.specs.Tree as t
use Rattle.snap_front.specs.declared.step.Step.{Step}
use Rattle.snap_front.specs.declared.step.Step.TheVariants.{Key, Index}

-- the key of an entry is this text
abbrev pub is_key : List ℕ → t.Tree → Bool
is_key name (t.string s) = bytes_eq s name
is_key name other = false

-- the value of the first entry with that key
abbrev pub value_in : List ℕ → t.TreePairs → Option t.Tree
value_in name t.no_pairs = None
value_in name (t.pair k v rest) = if is_key name k then Some v else value_in name rest

abbrev pub item_at : ℕ → t.Trees → Option t.Tree
item_at n t.no_trees = None
item_at zero (t.tree first rest) = Some first
item_at (suc n) (t.tree first rest) = item_at n rest

-- a key leads from a map, an index from a sequence, and nothing leads from anything else
abbrev pub step_in : Step → t.Tree → Option t.Tree
step_in (Key name) (t.map pairs) = value_in name pairs
step_in (Index n) (t.seq items) = item_at n items
step_in step other = None

-- the tree at the end of a path
abbrev pub get_tree : List Step → t.Tree → Option t.Tree
get_tree [] c = Some c
get_tree (s ∷ ss) c = option_and_then (get_tree ss) (step_in s c)

-- the entries with the value under the key: in place of the first one, or at the end
abbrev pub with_entry : List ℕ → t.Tree → t.TreePairs → t.TreePairs
with_entry name v t.no_pairs = t.pair (t.string name) v t.no_pairs
with_entry name v (t.pair k w rest) = if is_key name k then t.pair k v rest else t.pair k w (with_entry name v rest)

-- the items with the value at the place, which is that of an item or one past the end
abbrev pub with_item : ℕ → t.Tree → t.Trees → Option t.Trees
with_item zero v t.no_trees = Some (t.tree v t.no_trees)
with_item (suc n) v t.no_trees = None
with_item zero v (t.tree first rest) = Some (t.tree v rest)
with_item (suc n) v (t.tree first rest) = option_map (t.tree first) (with_item n v rest)

-- the tree with the value one step below
abbrev pub put_step : Step → t.Tree → t.Tree → Option t.Tree
put_step (Key name) v (t.map pairs) = Some (t.map (with_entry name v pairs))
put_step (Index n) v (t.seq items) = option_map t.seq (with_item n v items)
put_step step v other = None

-- the tree with the value at the end of the path
abbrev pub set_tree : List Step → t.Tree → t.Tree → Option t.Tree
set_tree [] v c = Some v
set_tree (s ∷ []) v c = put_step s v c
set_tree (s ∷ r ∷ rest) v c = option_and_then (λ inner. option_and_then (λ new. put_step s new c) (set_tree (r ∷ rest) v inner)) (step_in s c)

-- the entries without the first one of the key
abbrev pub without_entry : List ℕ → t.TreePairs → Option t.TreePairs
without_entry name t.no_pairs = None
without_entry name (t.pair k v rest) = if is_key name k then Some rest else option_map (t.pair k v) (without_entry name rest)

abbrev pub without_item : ℕ → t.Trees → Option t.Trees
without_item n t.no_trees = None
without_item zero (t.tree first rest) = Some rest
without_item (suc n) (t.tree first rest) = option_map (t.tree first) (without_item n rest)

abbrev pub cut_step : Step → t.Tree → Option t.Tree
cut_step (Key name) (t.map pairs) = option_map t.map (without_entry name pairs)
cut_step (Index n) (t.seq items) = option_map t.seq (without_item n items)
cut_step step other = None

-- the tree without what is at the end of the path, which is not empty
abbrev pub remove_tree : List Step → t.Tree → Option t.Tree
remove_tree [] c = None
remove_tree (s ∷ []) c = cut_step s c
remove_tree (s ∷ r ∷ rest) c = option_and_then (λ inner. option_and_then (λ new. put_step s new c) (remove_tree (r ∷ rest) inner)) (step_in s c)
