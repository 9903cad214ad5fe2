use Rattle.snap_emit_values.proofs.Prelude.{◌++◌, [], ◌∷◌, refl, sym, ap, ◌∙◌, codes, if◌then◌else◌, append-nil, on_ok_weaker, on_err_weaker, IsBegun, text_at, dumped, place, node_shape, shape_of}
use Rattle.snap_emit_values.specs.Document.{ends_in_block}
use Rattle.snap_emit_values.proofs.Begun.{added_twice, unmoved, begun_first, begun_then, begun_as, on_err}
use Rattle.snap_emit_values.proofs.Columned.{dumped-text}
use Rattle.snap_emit_values.proofs.documents.push_dump.Goals as goal

pub returns-in_err-emit-clause-err : goal.returns-in_err-emit-clause-err
returns-in_err-emit-clause-err c =
    let w = place c.args.blocks in
    let t = shape_of c.args.doc.now in
    let tail = if ends_in_block w t then 10 ∷ [] else [] in
    let h : IsBegun c.args.out.now c.emit.new.out (dumped (place c.args.blocks) (shape_of c.args.doc.now)) =
    begun_as c.args.out.now c.emit.new.out (codes "---\n" ++ (text_at 0 w t ++ tail)) (dumped w t) (dumped-text w t (ends_in_block w t) refl)
    (begun_then c.args.out.now c.push_ascii.new.self c.emit.new.out (codes "---\n") (text_at 0 w t ++ tail) c.in_ok-push_ascii.ensures.ok
    (begun_first c.push_ascii.new.self c.emit.new.out (text_at 0 w t) tail
    (begun_as c.push_ascii.new.self c.emit.new.out (text_at 0 w (node_shape c.of_value.result)) (text_at 0 w t) (ap (text_at 0 w) c.of_value.ensures) c.in_err-emit.ensures.err))) in
    on_err c.from_residual-in_err-emit.result _ h

pub returns-then-ends_in_block-clause-ok : goal.returns-then-ends_in_block-clause-ok
returns-then-ends_in_block-clause-ok c =
    let w = place c.args.blocks in
    let t = shape_of c.args.doc.now in
    let told = sym c.if-ends_in_block.true ∙ c.ends_in_block.ensures in
    on_ok_weaker c.push.result
    (λ h. added_twice c.args.out.now c.push_ascii.new.self c.push.new.self (codes "---\n") (text_at 0 w t ++ 10 ∷ []) c.in_ok-push_ascii.ensures.ok
    (added_twice c.push_ascii.new.self c.emit.new.out c.push.new.self (text_at 0 w t) (10 ∷ []) (c.in_ok-emit.ensures.ok ∙ ap (λ x. c.push_ascii.new.self ++ text_at 0 w x) c.of_value.ensures) h)
    ∙ ap (λ x. c.args.out.now ++ x) (dumped-text w t _ told))
    c.push.ensures.ok

pub returns-then-ends_in_block-clause-err : goal.returns-then-ends_in_block-clause-err
returns-then-ends_in_block-clause-err c =
    let w = place c.args.blocks in
    let t = shape_of c.args.doc.now in
    let told = sym c.if-ends_in_block.true ∙ c.ends_in_block.ensures in
    on_err_weaker c.push.result
    (λ h. begun_as c.args.out.now c.push.new.self (codes "---\n" ++ (text_at 0 w t ++ 10 ∷ [])) (dumped w t) (dumped-text w t _ told)
    (begun_then c.args.out.now c.push_ascii.new.self c.push.new.self (codes "---\n") (text_at 0 w t ++ 10 ∷ []) c.in_ok-push_ascii.ensures.ok
    (begun_then c.push_ascii.new.self c.emit.new.out c.push.new.self (text_at 0 w t) (10 ∷ []) (c.in_ok-emit.ensures.ok ∙ ap (λ x. c.push_ascii.new.self ++ text_at 0 w x) c.of_value.ensures)
    (unmoved c.emit.new.out c.push.new.self (10 ∷ []) h))))
    c.push.ensures.err

pub returns-clause-ok : goal.returns-clause-ok
returns-clause-ok c =
    let w = place c.args.blocks in
    let t = shape_of c.args.doc.now in
    let told = sym c.if-ends_in_block.false ∙ c.ends_in_block.ensures in
    added_twice c.args.out.now c.push_ascii.new.self c.emit.new.out (codes "---\n") (text_at 0 w t) c.in_ok-push_ascii.ensures.ok (c.in_ok-emit.ensures.ok ∙ ap (λ x. c.push_ascii.new.self ++ text_at 0 w x) c.of_value.ensures)
    ∙ ap (λ x. c.args.out.now ++ (codes "---\n" ++ x)) (sym (append-nil (text_at 0 w t))) ∙ ap (λ x. c.args.out.now ++ x) (dumped-text w t _ told)
