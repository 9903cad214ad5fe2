use Rattle.snap_fields.proofs.Prelude.{sym, ◌∙◌}
use Rattle.snap_fields.proofs.Lookups.{filled, last_pushed, none_left}
use Rattle.snap_fields.proofs.Made.{filled-made}
use Rattle.snap_fields.proofs.fields.filled_named.Goals as goal

pub returns-in-Some-value_if_filled-clause-tree : goal.returns-in-Some-value_if_filled-clause-tree
returns-in-Some-value_if_filled-clause-tree c =
    sym (last_pushed (filled c.args.name.now) c.loop-pair.left.now c.in-Some.before.now c.in-Some.pair.now _ c.in-Some.ensures.cases.0 c.in-Some-value_if_filled.ensures) ∙ c.loop-pair.invariant

pub loop-pair-preserved : goal.loop-pair-preserved
loop-pair-preserved c =
    sym (last_pushed (filled c.args.name.now) c.loop-pair.left.now c.in-Some.before.now c.in-Some.pair.now _ c.in-Some.ensures.cases.0 c.in-None.ensures) ∙ c.loop-pair.invariant

pub returns-in-Some-value_if_filled-clause-made : goal.returns-in-Some-value_if_filled-clause-made
returns-in-Some-value_if_filled-clause-made c = λ entries made. returns-in-Some-value_if_filled-clause-tree c ∙ filled-made c.args.name.now _ entries made

pub returns-clause-made : goal.returns-clause-made
returns-clause-made c = λ entries made. none_left (filled c.args.name.now) c.loop-pair.left.now c.args.pairs.now c.in_default.ensures.cases c.loop-pair.invariant ∙ filled-made c.args.name.now _ entries made
