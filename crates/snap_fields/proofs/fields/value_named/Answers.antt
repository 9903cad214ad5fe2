use Rattle.snap_fields.proofs.Prelude.{sym, ◌∙◌}
use Rattle.snap_fields.proofs.Lookups.{named, last_pushed, none_left}
use Rattle.snap_fields.proofs.Made.{value-made}
use Rattle.snap_fields.proofs.fields.value_named.Goals as goal

pub returns-in-Some-value_if_named-clause-tree : goal.returns-in-Some-value_if_named-clause-tree
returns-in-Some-value_if_named-clause-tree c =
    sym (last_pushed (named c.args.name.now) c.loop-pair.left.now c.in-Some.front.now c.in-Some.pair.now _ c.in-Some.ensures.cases.0 c.in-Some-value_if_named.ensures) ∙ c.loop-pair.invariant

pub loop-pair-preserved : goal.loop-pair-preserved
loop-pair-preserved c =
    sym (last_pushed (named c.args.name.now) c.loop-pair.left.now c.in-Some.front.now c.in-Some.pair.now _ c.in-Some.ensures.cases.0 c.in-None.ensures) ∙ c.loop-pair.invariant

pub returns-in-Some-value_if_named-clause-made : goal.returns-in-Some-value_if_named-clause-made
returns-in-Some-value_if_named-clause-made c = λ entries made. returns-in-Some-value_if_named-clause-tree c ∙ value-made c.args.name.now _ entries made

pub returns-clause-made : goal.returns-clause-made
returns-clause-made c = λ entries made. none_left (named c.args.name.now) c.loop-pair.left.now c.args.pairs.now c.in_default.ensures.cases c.loop-pair.invariant ∙ value-made c.args.name.now _ entries made
