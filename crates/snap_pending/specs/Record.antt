-- The tree of a record, and its line.
use Rattle.std.specs.Prelude.{ℕ, List, [], ◌∷◌, ◌++◌, Bool, Option, None, Some, option_map, codes}
use Rattle.snap_content.specs.Tree.{Tree, none, string, u32, map, no_pairs, pair}
use Rattle.snap_json.specs.JsonText.{json_text, json_refuses}
use Rattle.snap_json.specs.declared.format.Format.TheVariants.{Condensed}
use Rattle.snap_store.specs.MetaTree.{text_pair, meta_tree}
use Rattle.snap_store.specs.Views.{text_in, SnapshotView}
use Rattle.snap_text.specs.Normal.{normal}
use Rattle.snap_pending.specs.Pending.{Pending}

-- its module, its name where it has one, its metadata, and its normal text; a payload has none
abbrev pub held_tree : SnapshotView → Tree
held_tree held = map (
    pair (string (codes "module_name")) (string held.module_name) (text_pair (codes "snapshot_name") held.snapshot_name (
    pair (string (codes "metadata")) (meta_tree held.meta) (text_pair (codes "snapshot") (option_map normal (text_in held.contents)) no_pairs))))

abbrev pub tree_or_none : Option SnapshotView → Tree
tree_or_none None = none
tree_or_none (Some held) = held_tree held

-- the tree of a record: its run, the line of the assertion, and both snapshots
abbrev pub record_of : Pending → Tree
record_of pending = map (
    pair (string (codes "run_id")) (string pending.run_id) (pair (string (codes "line")) (u32 pending.line) (
    pair (string (codes "new")) (tree_or_none pending.new_snapshot) (pair (string (codes "old")) (tree_or_none pending.old_snapshot) no_pairs))))

-- a key of the record is one that JSON refuses
abbrev pub is_refused : Pending → Bool
is_refused pending = json_refuses (record_of pending)

-- the JSON text of the record, without blanks, and LF
abbrev pub record_line : Pending → List ℕ
record_line pending = json_text Condensed (record_of pending) ++ 10 ∷ []
