use Rattle.snap_assert.proofs.Refusals.{err_weaker}
use Rattle.snap_assert.proofs.LiteralRecords.{both_ok, compared_done, compared_stops}
use Rattle.snap_assert.specs.Relations.{asked_relation}
use Rattle.std.proofs.Common.{refl}
use Rattle.snap_assert.specs.LiteralHalts.{uncompared, compared}
use Rattle.snap_assert.proofs.literal.assert_begun.Goals as goal

pub returns-in-Ok-clause-done : goal.returns-in-Ok-clause-done
returns-in-Ok-clause-done g c =
    both_ok c.assert_judged.result (λ outcome left said a name are.
    compared_done (asked_relation (g.C.Comparator.agrees c.args.comparator.now) (g.C.Comparator.agrees_fully c.args.comparator.now) c.args.config.now.require_full_match)
    c.args.config.now a name c.in-Ok.judged outcome _ _ (c.in-Ok.ensures a name are) said (left a c.args.reference.now name are))
    c.assert_judged.ensures.left c.assert_judged.ensures.warnings

pub returns-in-Ok-clause-stopped : goal.returns-in-Ok-clause-stopped
returns-in-Ok-clause-stopped g c =
    err_weaker c.assert_judged.result (λ e h a name are.
    compared_stops (asked_relation (g.C.Comparator.agrees c.args.comparator.now) (g.C.Comparator.agrees_fully c.args.comparator.now) c.args.config.now.require_full_match)
    c.args.config.now a name c.in-Ok.judged _ _ e (c.in-Ok.ensures a name are) (h a c.args.reference.now name are))
    c.assert_judged.ensures.stopped

pub returns-in-Ok-clause-halted : goal.returns-in-Ok-clause-halted
returns-in-Ok-clause-halted g c = err_weaker c.assert_judged.result
    (λ e h a name are. compared c.in-Ok.judged.passed (c.in-Ok.ensures a name are).passes (h a c.args.reference.now name are)) c.assert_judged.ensures.halted

pub returns-in-Err-clause-halted : goal.returns-in-Err-clause-halted
returns-in-Err-clause-halted g c = λ a name are. uncompared refl refl
