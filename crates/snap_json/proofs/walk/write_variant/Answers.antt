use Rattle.snap_json.proofs.Prelude.{text, member_written}
use Rattle.snap_json.proofs.Behind.{on_exit, stopped_first, wrote_behind}
use Rattle.snap_json.proofs.walk.write_variant.Goals as goal

pub returns-in_err-write_opening : goal.returns-in_err-write_opening
returns-in_err-write_opening c =
    on_exit c.from_residual.result c.from_residual.ensures.1
    (stopped_first (member_written c.args.format (text c.args.variant.now)) c.in_err-write_opening.ensures)

pub returns : goal.returns
returns c =
    wrote_behind c.write_name.result c.write_name.new.out (member_written c.args.format (text c.args.variant.now)) c.in_ok-write_opening.ensures
    c.write_name.ensures
