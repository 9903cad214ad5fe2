use Rattle.snap_demo.proofs.Prelude.{sym, ◌∙◌, arith}
use Rattle.snap_demo.proofs.DigitNumbers.{too_large}
use Rattle.snap_demo.proofs.words.number_within.Goals as goal

pub returns-then-number-from-clause-number : goal.returns-then-number-from-clause-number
returns-then-number-from-clause-number c =
    sym (too_large c.args.most c.loop-c.number c.in-Some.c _ _ c.in-Some.ensures (sym c.is_ascii_digit.ensures.value ∙ c.if-not-is_ascii_digit.false) (omega (arith, c.if-number-from.true, c.from.ensures)))
    ∙ c.loop-c.invariant.same
