use Rattle.snap_json.proofs.Prelude.{◌∷◌, sym, ap, blanks, comma, whole}
use Rattle.snap_json.proofs.Behind.{on_exit, stopped_first, stopped_as}
use Rattle.snap_json.proofs.layout.write_comma.Goals as goal

pub returns-in_err-write_char-in-Pretty : goal.returns-in_err-write_char-in-Pretty
returns-in_err-write_char-in-Pretty c =
    let k = c.args.column in
    on_exit c.from_residual.result c.from_residual.ensures.1
    (stopped_as (whole (44 ∷ 10 ∷ blanks k)) (whole (comma c.args.format k)) (ap (λ layout. whole (comma layout k)) (sym c.in-Pretty.is))
    (stopped_first (whole (10 ∷ blanks k)) c.in_err-write_char-in-Pretty.ensures))
