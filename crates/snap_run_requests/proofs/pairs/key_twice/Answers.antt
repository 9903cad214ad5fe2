use Rattle.snap_run_requests.proofs.Prelude.{◌≤◌, arith, get_or, pair_trees}
use borrow.Author.Count.{below_more}
use Rattle.snap_run_requests.specs.Keys.{times}
use Rattle.snap_run_requests.specs.declared.key.Key.TheVariants.{Module}
use Rattle.snap_run_requests.proofs.Keys.{all_keys, of_each}
use Rattle.snap_run_requests.proofs.pairs.key_twice.Goals as goal

pub loop-key-preserved : goal.loop-key-preserved
loop-key-preserved c =
    let here : times (get_or all_keys c.loop-key.key-index Module) (pair_trees c.args.pairs.now) ≤ 1 = omega (arith, c.times.ensures, c.if-times-gt1.false) in
    below_more (λ k. times (get_or all_keys k Module) (pair_trees c.args.pairs.now) ≤ 1) c.loop-key.key-index c.loop-key.invariant here

pub returns : goal.returns
returns c = of_each (λ key. times key (pair_trees c.args.pairs.now) ≤ 1) (λ k h. c.loop-key.invariant k (omega (arith, c.loop-key-test.false)))
