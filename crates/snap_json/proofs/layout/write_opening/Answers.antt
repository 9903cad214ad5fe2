use Rattle.snap_json.proofs.Prelude.{break_at, whole}
use Rattle.snap_json.proofs.Behind.{on_exit, stopped_first, wrote_behind}
use Rattle.snap_json.proofs.layout.write_opening.Goals as goal

pub returns-in_err-write_char : goal.returns-in_err-write_char
returns-in_err-write_char c =
    on_exit c.from_residual.result c.from_residual.ensures.1
    (stopped_first (whole (break_at c.args.format c.args.column)) c.in_err-write_char.ensures)

pub returns : goal.returns
returns c =
    wrote_behind c.write_break.result c.write_break.new.out (whole (break_at c.args.format c.args.column)) c.in_ok-write_char.ensures
    c.write_break.ensures
