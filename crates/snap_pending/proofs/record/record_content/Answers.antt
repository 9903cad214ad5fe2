use Rattle.snap_pending.proofs.Prelude.{ap, ◌∙◌, u32, tree-pairs, tree-U32, in_front-none}
use Rattle.snap_content.specs.Tree.{map}
use Rattle.snap_pending.proofs.Records.{record_pairs}
use Rattle.snap_pending.proofs.record.record_content.Goals as goal

pub returns : goal.returns
returns c =
    tree-pairs c.push_snapshot-2.new.pairs
    ∙ ap map (c.in_ok-push_snapshot-2.ensures _ ∙ c.in_ok-push_snapshot.ensures _ ∙ c.in_ok-push_field.ensures _ ∙ c.in_ok-push_text.ensures _
    ∙ in_front-none _ _ c.new-pairs.ensures
    ∙ record_pairs _ _ _ _ _ _ _ _ c.run_id.ensures (tree-U32 _ ∙ ap u32 c.line.ensures) c.new_snapshot.ensures c.old_snapshot.ensures)
