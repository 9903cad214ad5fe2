use Rattle.snap_json.proofs.Prelude.{◌∷◌, sym, ap, blanks, break_at, whole}
use Rattle.snap_json.proofs.Behind.{on_exit, stopped_first, stopped_as}
use Rattle.snap_json.proofs.layout.write_break.Goals as goal

pub returns-in_err-write_char-in-Pretty : goal.returns-in_err-write_char-in-Pretty
returns-in_err-write_char-in-Pretty c =
    let k = c.args.column in
    on_exit c.from_residual.result c.from_residual.ensures.1
    (stopped_as (whole (10 ∷ blanks k)) (whole (break_at c.args.format k)) (ap (λ layout. whole (break_at layout k)) (sym c.in-Pretty.is))
    (stopped_first (whole (blanks k)) c.in_err-write_char-in-Pretty.ensures))
