use Rattle.std.proofs.Common.{Some, ap, ◌∙◌}
use Rattle.std.proofs.lemmas.Result.{IfOk-weaker}
use Rattle.snap_pending.specs.Pending.{pending_of}
use Rattle.snap_pending.specs.Record.{record_line}
use Rattle.snap_store.specs.Views.{snapshot_of}
use Rattle.snap_assert_place.specs.Place.{place_of}
use Rattle.snap_assert.proofs.LiteralRecords.{pending_is}
use Rattle.snap_assert.proofs.record.literal_line.Goals as goal

pub returns-in-Ok-clause-line : goal.returns-in-Ok-clause-line
returns-in-Ok-clause-line c =
    let is = pending_is (pending_of c.new-pending.result) c.args.config.now.run_id (place_of c.args.place.now).line (Some (snapshot_of c.args.new)) (Some (snapshot_of c.args.old))
    (c.new-pending.ensures.run ∙ c.in-Ok.ensures) (c.new-pending.ensures.line ∙ c.line.ensures) c.new-pending.ensures.made c.new-pending.ensures.stood in
    IfOk-weaker c.printed-line.result _ _ (λ line h. h ∙ ap record_line is) c.printed-line.ensures.line
