use Rattle.snap_emit_values.proofs.Prelude.{codes, on_ok_weaker, on_err_weaker, body, place, node_shape}
use Rattle.snap_emit_values.proofs.Begun.{added_twice, begun_then}
use Rattle.snap_emit_values.proofs.documents.push_node.Goals as goal

pub returns-clause-ok : goal.returns-clause-ok
returns-clause-ok c =
    on_ok_weaker c.push_body.result
    (λ h. added_twice c.args.out.now c.push_ascii.new.self c.push_body.new.out (codes "---\n") (body (place c.args.blocks) (node_shape c.args.node))
    c.in_ok-push_ascii.ensures.ok h)
    c.push_body.ensures.ok

pub returns-clause-err : goal.returns-clause-err
returns-clause-err c =
    on_err_weaker c.push_body.result
    (λ h. begun_then c.args.out.now c.push_ascii.new.self c.push_body.new.out (codes "---\n") (body (place c.args.blocks) (node_shape c.args.node))
    c.in_ok-push_ascii.ensures.ok h)
    c.push_body.ensures.err
