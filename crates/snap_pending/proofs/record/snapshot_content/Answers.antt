use Rattle.snap_pending.proofs.Prelude.{ap, ◌∙◌, meta_tree, tree-pairs, in_front-none}
use Rattle.snap_content.specs.Tree.{map}
use Rattle.snap_pending.proofs.Records.{held_pairs}
use Rattle.snap_pending.proofs.record.snapshot_content.Goals as goal

pub returns : goal.returns
returns c =
    tree-pairs c.push_contents.new.pairs
    ∙ ap map (c.in_ok-push_contents.ensures _ ∙ c.in_ok-push_field.ensures _ ∙ c.in_ok-push_name.ensures _ ∙ c.in_ok-push_text.ensures _
    ∙ in_front-none _ _ c.new-pairs.ensures
    ∙ held_pairs _ _ _ _ _ _ _ _ c.module_name.ensures c.snapshot_name.ensures (c.in_ok-to_content.ensures ∙ ap meta_tree c.metadata.ensures) c.contents.ensures)
