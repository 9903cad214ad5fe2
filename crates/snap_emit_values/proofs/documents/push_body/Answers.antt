use Rattle.snap_emit_values.proofs.Prelude.{◌++◌, [], ◌∷◌, ap, ◌∙◌, on_ok_weaker, on_err_weaker, text_at, body, place, node_shape}
use Rattle.snap_emit_values.proofs.Begun.{added_twice, unmoved, begun_first, begun_then, begun_as, on_err, on_ok}
use Rattle.snap_emit_values.proofs.Columned.{whole-text}
use Rattle.snap_emit_values.proofs.documents.push_body.Goals as goal

pub returns-in_err-emit-clause-err : goal.returns-in_err-emit-clause-err
returns-in_err-emit-clause-err c =
    let w = place c.args.blocks in
    let x = node_shape c.args.node in
    on_err c.from_residual.result _
    (begun_as c.args.out.now c.emit.new.out (text_at 0 w x ++ 10 ∷ []) (body w x) (whole-text w x)
    (begun_first c.args.out.now c.emit.new.out (text_at 0 w x) (10 ∷ []) c.in_err-emit.ensures.err))

pub returns-clause-ok : goal.returns-clause-ok
returns-clause-ok c =
    let w = place c.args.blocks in
    let x = node_shape c.args.node in
    on_ok_weaker c.push.result
    (λ h. added_twice c.args.out.now c.emit.new.out c.push.new.self (text_at 0 w x) (10 ∷ []) c.in_ok-emit.ensures.ok h
    ∙ ap (λ t. c.args.out.now ++ t) (whole-text w x))
    c.push.ensures.ok

pub returns-clause-within : goal.returns-clause-within
returns-clause-within c = on_ok c.push.result _ c.in_ok-emit.ensures.within

pub returns-clause-err : goal.returns-clause-err
returns-clause-err c =
    let w = place c.args.blocks in
    let x = node_shape c.args.node in
    on_err_weaker c.push.result
    (λ h. begun_as c.args.out.now c.push.new.self (text_at 0 w x ++ 10 ∷ []) (body w x) (whole-text w x)
    (begun_then c.args.out.now c.emit.new.out c.push.new.self (text_at 0 w x) (10 ∷ []) c.in_ok-emit.ensures.ok
    (unmoved c.emit.new.out c.push.new.self (10 ∷ []) h)))
    c.push.ensures.err
