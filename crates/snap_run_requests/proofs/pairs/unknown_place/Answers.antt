use Rattle.snap_run_requests.proofs.Prelude.{sym, ◌∙◌}
use Rattle.snap_run_requests.proofs.Keys.{unknown_at, all_known}
use Rattle.snap_run_requests.proofs.pairs.unknown_place.Goals as goal

pub returns-then-not-is_one_of : goal.returns-then-not-is_one_of
returns-then-not-is_one_of c =
    unknown_at c.args.keys.now c.args.pairs.now c.loop-place.place c.index-pairs-place.result c.loop-place-test.true c.index-pairs-place.is
    (sym c.is_one_of.ensures ∙ c.if-not-is_one_of.true)

pub returns : goal.returns
returns c = all_known c.args.keys.now c.args.pairs.now c.loop-place.place c.loop-place-test.false c.loop-place.invariant
