use Rattle.snap_io_lines.proofs.Prelude.{◌≡◌, sym, ◌∙◌, append-nil}
use Rattle.snap_io_lines.proofs.Pieces.{stops_line}
use Rattle.snap_io_lines.proofs.lines.Held.hand_out.Goals as goal

pub returns-in-Err-clause-why : goal.returns-in-Err-clause-why
returns-in-Err-clause-why c =
    let whole : c.args.self.now ≡ c.split_at.result.1.now = cc (c.self.view_is, c.split_at.ensures.back, c.as_slice.ensures.value) in
    stops_line c.in-Err.error c.args.line.now.items c.in-Some.piece.now _ c.args.self.now c.in-Err.ensures.why (whole ∙ c.in-Some.ensures.0.is) c.in-Some.ensures.0.first

pub returns-in-Err-add_piece-clause-why : goal.returns-in-Err-add_piece-clause-why
returns-in-Err-add_piece-clause-why c =
    let whole : c.args.self.now ≡ c.split_at.result.1.now = cc (c.self.view_is, c.split_at.ensures.back, c.as_slice.ensures.value) in
    stops_line c.in-Err-add_piece.error c.args.line.now.items c.split_at.result.1.now _ c.args.self.now c.in-Err-add_piece.ensures.why (whole ∙ sym (append-nil _)) c.in-None.ensures
