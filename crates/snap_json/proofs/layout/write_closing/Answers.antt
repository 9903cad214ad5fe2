use Rattle.snap_json.proofs.Prelude.{[], ◌∷◌, whole}
use Rattle.snap_json.proofs.Behind.{on_exit, stopped_first, wrote_behind}
use Rattle.snap_json.proofs.layout.write_closing.Goals as goal

pub returns-in_err-write_break : goal.returns-in_err-write_break
returns-in_err-write_break c =
    on_exit c.from_residual.result c.from_residual.ensures.1 (stopped_first (whole (c.args.bracket ∷ [])) c.in_err-write_break.ensures)

pub returns : goal.returns
returns c =
    wrote_behind c.write_char.result c.write_char.new.out (whole (c.args.bracket ∷ [])) c.in_ok-write_break.ensures c.write_char.ensures
