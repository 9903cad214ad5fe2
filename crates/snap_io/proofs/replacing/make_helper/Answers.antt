use Rattle.snap_io.proofs.Prelude.{◌≡◌, ap, ◌∙◌, inr, arith, asked_of, tried}
use Rattle.snap_io.specs.Limits.{most_helpers}
use Rattle.snap_io.proofs.replacing.make_helper.Goals as goal

pub returns-clause-none : goal.returns-clause-none
returns-clause-none g c =
    let all : c.loop-number.number ≡ most_helpers = omega (arith, c.loop-number.auto.number-end, c.loop-number-test.false) in
    inr (c.loop-number.invariant ∙ ap (λ n. tried c.args.path.now c.args.bits n (asked_of c.args.disk.now)) all)
