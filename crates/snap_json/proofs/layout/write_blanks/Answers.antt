use Rattle.snap_json.proofs.Prelude.{arith}
use Rattle.snap_json.proofs.Behind.{on_exit}
use Rattle.snap_json.proofs.Blanks.{blanks_added, blanks_stopped}
use Rattle.snap_json.proofs.layout.write_blanks.Goals as goal

pub returns-in_err-write_word : goal.returns-in_err-write_word
returns-in_err-write_word c =
    on_exit c.from_residual.result c.from_residual.ensures.1
    (blanks_stopped c.args.count c.eights.done 8 (omega arith) c.eights.invariant.added c.in_err-write_word.ensures)

pub eights-preserved : goal.eights-preserved
eights-preserved c = record {
  added = blanks_added c.eights.done 8 c.eights.invariant.added c.in_ok-write_word.ensures;
  within = omega arith;
}

pub returns-in_err-write_char : goal.returns-in_err-write_char
returns-in_err-write_char c =
    on_exit c.from_residual-in_err-write_char.result c.from_residual-in_err-write_char.ensures.1
    (blanks_stopped c.args.count c.ones.done 1 (omega arith) c.ones.invariant.added c.in_err-write_char.ensures)

pub ones-preserved : goal.ones-preserved
ones-preserved c = record {
  added = blanks_added c.ones.done 1 c.ones.invariant.added c.in_ok-write_char.ensures;
  within = omega arith;
}
