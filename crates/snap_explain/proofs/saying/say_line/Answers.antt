use Rattle.snap_explain.proofs.Prelude.{[], refl, sym, ap, ◌∙◌, append-nil, Some, err_from_is_err_and, finding_text, of_record, of_fault}
use Rattle.snap_explain.proofs.Turns.{filled_line, said_error}
use Rattle.snap_explain.proofs.saying.say_line.Goals as goal

pub returns-in_err-say-in-Some-clause-said : goal.returns-in_err-say-in-Some-clause-said
returns-in_err-say-in-Some-clause-said g c = λ views w are told.
    let sent = err_from_is_err_and c.from_residual-in_err-say-in-Some.result c.from_residual-in_err-say-in-Some.ensures.1 in
    rw (sent.1, sent.2)
    (said_error views c.args.number c.args.line.now (finding_text c.args.number c.in-Some.fault) w _ c.in_err-say-in-Some.field-0.0
    (of_fault (filled_line _ _ c.is_empty.ensures c.if-is_empty.false) c.in-Some.fault (rw c.in-Some.is at (c.in_ok-fault_in.ensures views are)) refl)
    (c.in_err-say-in-Some.ensures.said w told))

pub returns-in-None-clause-said : goal.returns-in-None-clause-said
returns-in-None-clause-said g c = λ views w are told.
    ([], of_record (rw c.in-None.is at (c.in_ok-fault_in.ensures views are)) refl, told ∙ ap Some (sym (append-nil w)), refl)

pub returns-in_ok-say-in-Some-clause-said : goal.returns-in_ok-say-in-Some-clause-said
returns-in_ok-say-in-Some-clause-said g c = λ views w are told.
    let fault = c.in-Some.fault in (
      finding_text c.args.number fault,
      of_fault (filled_line _ _ c.is_empty.ensures c.if-is_empty.false) fault (rw c.in-Some.is at (c.in_ok-fault_in.ensures views are)) refl,
      c.in_ok-say-in-Some.ensures.said w told,
      refl,
    )
