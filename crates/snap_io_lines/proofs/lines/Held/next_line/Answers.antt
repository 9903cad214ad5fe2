use Rattle.snap_io_lines.proofs.Prelude.{◌∙◌, arith}
use Rattle.snap_io_lines.proofs.Pieces.{spends_then, gathered_more, gathered_ended, gathered_last, gathered_long, hands_piece, hands_all, long_of, one_error, still_unbroken}
use Rattle.snap_io_lines.proofs.lines.Held.next_line.Goals as goal

pub returns-in-Err-clause-long : goal.returns-in-Err-clause-long
returns-in-Err-clause-long g c = λ is all a.
    gathered_long _ _ _ _ _ c.pieces.invariant.gathered (long_of c.in-Err.error _ _ (one_error c.in-Err.error _ is) c.in-Err.ensures.why c.pieces.invariant.unbroken) all a

pub returns-in-Ok-true-clause-line : goal.returns-in-Ok-true-clause-line
returns-in-Ok-true-clause-line g c = λ all a.
    gathered_ended _ _ _ _ _ _ _ c.pieces.invariant.gathered (hands_piece c.in-Ok-true.field-0 _ _ _ _ c.in-Ok-true.field-0-test c.in-Ok-true.ensures.out) all a

pub returns-in-Err-fill-clause-spent : goal.returns-in-Err-fill-clause-spent
returns-in-Err-fill-clause-spent g c = spends_then _ _ _ _ _ _ c.pieces.invariant.spent c.in-Err-fill.ensures.spent

pub pieces-preserved : goal.pieces-preserved
pieces-preserved g c =
    let out = hands_all c.in-Ok-false.field-0 _ _ _ _ c.in-Ok-false.field-0-test c.in-Ok-false.ensures.out in
    record {
      gathered = gathered_more _ _ _ _ _ _ _ _ _ c.pieces.invariant.gathered out (c.in-Ok-true-fill.ensures.more c.in-Ok-true-fill.field-0-test);
      unbroken = still_unbroken _ _ _ _ c.pieces.invariant.unbroken out;
      within = c.in-Ok-false.ensures.within;
      spent = spends_then _ _ _ _ _ _ c.pieces.invariant.spent c.in-Ok-true-fill.ensures.spent;
      some = c.in-Ok-true-fill.ensures.left;
      bound = omega (arith, c.in-Ok-true-fill.ensures.kept, c.pieces.invariant.bound);
      count = c.in-Ok-true-fill.ensures.cause ∙ c.pieces.invariant.count;
    }

pub returns-in-Ok-false-fill-clause-line : goal.returns-in-Ok-false-fill-clause-line
returns-in-Ok-false-fill-clause-line g c = λ all a.
    gathered_last _ _ _ _ _ _ _ _ _ c.pieces.invariant.gathered (hands_all c.in-Ok-false.field-0 _ _ _ _ c.in-Ok-false.field-0-test c.in-Ok-false.ensures.out)
    (λ rest b. c.in-Ok-false-fill.ensures.end c.in-Ok-false-fill.field-0-test rest b) all a

pub returns-in-Ok-false-fill-clause-spent : goal.returns-in-Ok-false-fill-clause-spent
returns-in-Ok-false-fill-clause-spent g c = spends_then _ _ _ _ _ _ c.pieces.invariant.spent c.in-Ok-false-fill.ensures.spent
