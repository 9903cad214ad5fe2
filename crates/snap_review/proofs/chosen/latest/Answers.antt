use Rattle.snap_review.proofs.Prelude.{sym, ap, ◌∙◌, map, pending_of, latest_after, seen}
use Rattle.snap_review.proofs.Choosing.{latest_turn}
use Rattle.snap_review.proofs.Puttings.{left_at, none_left}
use Rattle.snap_review.proofs.chosen.latest.Goals as goal

pub loop-record-preserved : goal.loop-record-preserved
loop-record-preserved c =
    latest_turn _ _ _ _ c.line.result _ _ (left_at c.args.records.now c.loop-record.record-index c.record-item.result c.loop-record-test.true c.record-item.is)
    c.line.ensures c.in_ok-insert.ensures.entries c.loop-record.invariant

pub returns : goal.returns
returns c =
    ap (λ left. latest_after (seen c.loop-record.made.entries) (map pending_of left)) (sym (none_left c.args.records.now c.loop-record.record-index c.loop-record-test.false))
    ∙ c.loop-record.invariant
