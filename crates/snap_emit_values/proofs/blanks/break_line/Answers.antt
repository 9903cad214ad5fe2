use Rattle.snap_emit_values.proofs.Prelude.{[], ◌∷◌, on_err_weaker, blanks}
use Rattle.snap_emit_values.proofs.Begun.{begun_then}
use Rattle.snap_emit_values.proofs.blanks.break_line.Goals as goal

pub returns-clause-err : goal.returns-clause-err
returns-clause-err c =
    on_err_weaker c.push_blanks.result
    (λ h. begun_then c.args.out.now c.push.new.self c.push_blanks.new.out (10 ∷ []) (blanks c.args.column) c.in_ok-push.ensures.ok h)
    c.push_blanks.ensures.err
