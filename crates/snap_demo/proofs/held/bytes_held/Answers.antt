use Rattle.snap_demo.proofs.Prelude.{arith, refl, rules, ◌∙◌}
use Rattle.snap_demo.proofs.Turns.{held_begins, held_goes_on, held_ends}
use Rattle.snap_demo.proofs.held.bytes_held.Goals as goal

pub loop-index-init : goal.loop-index-init
loop-index-init g c = record { total = λ m told. held_begins _ m; few = omega arith; same = refl; count = refl; untouched = λ none. refl }

pub loop-index-preserved : goal.loop-index-preserved
loop-index-preserved g c = record {
  total = λ m told. held_goes_on c.loop-index.total c.in_ok-total.field-0 c.loop-index.index c.args.count _ m c.loop-index-test.true
      (c.in_ok-total.ensures.size m (c.loop-index.invariant.same ∙ told)) (c.loop-index.invariant.total m told);
  few = search rules;
  same = c.in_ok-total.ensures.same ∙ c.loop-index.invariant.same;
  count = c.in_ok-total.ensures.cause ∙ c.loop-index.invariant.count;
  untouched = λ none. absurd (omega (arith, none, c.loop-index-test.true));
}

pub returns-clause-total : goal.returns-clause-total
returns-clause-total g c = λ m told. held_ends c.loop-index.total c.loop-index.index c.args.count _ m c.loop-index-test.false (c.loop-index.invariant.total m told)
