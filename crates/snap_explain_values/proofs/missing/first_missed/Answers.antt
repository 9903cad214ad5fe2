use Rattle.snap_explain_values.proofs.Prelude.{sym, tree}
use Rattle.snap_explain_values.proofs.MissedHere.{missed_here, missed_told, none_missed}
use Rattle.snap_explain_values.proofs.missing.first_missed.Goals as goal

pub returns-then-not-branch : goal.returns-then-not-branch
returns-then-not-branch c =
    sym (missed_here (tree c.args.value.now) c.args.redactions.now c.loop-place.place c.index-redactions-place.result c.loop-place-test.true c.index-redactions-place.is
    (missed_told _ c.in_ok-is_hit.field-0 c.in_ok-is_hit.ensures c.if-not-branch.true) c.loop-place.invariant)

pub returns : goal.returns
returns c = sym (none_missed (tree c.args.value.now) c.args.redactions.now c.loop-place.place c.loop-place-test.false c.loop-place.invariant)
