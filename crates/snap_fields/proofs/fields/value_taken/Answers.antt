use Rattle.snap_fields.proofs.Prelude.{sym, ◌∙◌, arith}
use Rattle.snap_fields.proofs.Lookups.{named, last_pushed, none_left}
use Rattle.snap_fields.proofs.Made.{value-made}
use Rattle.snap_fields.proofs.fields.value_taken.Goals as goal

pub returns-in-Some-taken_if_named-clause-tree : goal.returns-in-Some-taken_if_named-clause-tree
returns-in-Some-taken_if_named-clause-tree c =
    sym (last_pushed (named c.args.name.now) c.loop-pair.left.items c.pop.new.self.items c.in-Some.pair _ c.in-Some.ensures.items c.in-Some-taken_if_named.ensures) ∙ c.loop-pair.invariant

pub loop-pair-preserved : goal.loop-pair-preserved
loop-pair-preserved c =
    sym (last_pushed (named c.args.name.now) c.loop-pair.left.items c.pop.new.self.items c.in-Some.pair _ c.in-Some.ensures.items c.in-None.ensures) ∙ c.loop-pair.invariant

pub returns-in-Some-taken_if_named-clause-made : goal.returns-in-Some-taken_if_named-clause-made
returns-in-Some-taken_if_named-clause-made c = λ entries made. returns-in-Some-taken_if_named-clause-tree c ∙ value-made c.args.name.now _ entries made

pub returns-clause-made : goal.returns-clause-made
returns-clause-made c = λ entries made. none_left (named c.args.name.now) c.loop-pair.left.items c.args.pairs.items (omega (arith, c.in_default.ensures.cases.0, c.loop-pair.left.ok)) c.loop-pair.invariant ∙ value-made c.args.name.now _ entries made
