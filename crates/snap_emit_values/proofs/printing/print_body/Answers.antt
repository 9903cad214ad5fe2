use Rattle.snap_emit_values.proofs.Prelude.{◌≡◌, ◌++◌, ap, ◌∙◌, subst, on_ok_weaker, on_err_weaker, Blocks, blocks_if, text_of, Plain, plain, tree, body, place, plain_shape, node_shape, Shape, IsShapeWithin}
use Rattle.snap_emit_values.proofs.Begun.{begun_as}
use Rattle.snap_emit_values.proofs.PlainShapes.{plain-body}
use Rattle.snap_emit_values.proofs.Within.{plain-within}
use Rattle.snap_emit_values.proofs.printing.print_body.Goals as goal

-- what was written at the place, as the text of the tree
told : (u w : Blocks) (x : Shape) (p : Plain) → u ≡ w → x ≡ plain_shape p → body u x ≡ text_of w p
told u w x p same shape = ap (λ v. body v x) same ∙ ap (body w) shape ∙ plain-body w p

pub returns-clause-ok : goal.returns-clause-ok
returns-clause-ok c =
    on_ok_weaker c.push_body.result
    (λ h. h
    ∙ ap (λ x. c.args.out.now ++ x)
    (told (place c.of_text.result) (blocks_if c.args.literal) (node_shape c.of_tree.result) (plain (tree c.args.content.now)) c.of_text.ensures c.of_tree.ensures))
    c.push_body.ensures.ok

pub returns-clause-within : goal.returns-clause-within
returns-clause-within c =
    on_ok_weaker c.push_body.result
    (λ h. plain-within (plain (tree c.args.content.now)) (subst (λ x. IsShapeWithin x) c.of_tree.ensures h)) c.push_body.ensures.within

pub returns-clause-err : goal.returns-clause-err
returns-clause-err c =
    on_err_weaker c.push_body.result
    (λ h. begun_as c.args.out.now c.push_body.new.out (body (place c.of_text.result) (node_shape c.of_tree.result))
    (text_of (blocks_if c.args.literal) (plain (tree c.args.content.now)))
    (told (place c.of_text.result) (blocks_if c.args.literal) (node_shape c.of_tree.result) (plain (tree c.args.content.now)) c.of_text.ensures c.of_tree.ensures)
    h)
    c.push_body.ensures.err
