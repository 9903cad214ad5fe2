use Rattle.snap_emit_values.proofs.Prelude.{◌≡◌, ◌++◌, ap, ◌∙◌, subst, on_ok_weaker, on_err_weaker, Blocks, blocks_if, document_of, Plain, plain, tree, document, place, plain_shape, node_shape, Shape, IsShapeWithin}
use Rattle.snap_emit_values.proofs.Begun.{begun_as}
use Rattle.snap_emit_values.proofs.PlainShapes.{plain-document}
use Rattle.snap_emit_values.proofs.Within.{plain-within}
use Rattle.snap_emit_values.proofs.printing.print_document.Goals as goal

-- what was written at the place, as the text of the tree
told : (u w : Blocks) (x : Shape) (p : Plain) → u ≡ w → x ≡ plain_shape p → document u x ≡ document_of w p
told u w x p same shape = ap (λ v. document v x) same ∙ ap (document w) shape ∙ plain-document w p

pub returns-clause-ok : goal.returns-clause-ok
returns-clause-ok c =
    on_ok_weaker c.push_node.result
    (λ h. h
    ∙ ap (λ x. c.args.out.now ++ x)
    (told (place c.of_text.result) (blocks_if c.args.literal) (node_shape c.of_tree.result) (plain (tree c.args.content.now)) c.of_text.ensures c.of_tree.ensures))
    c.push_node.ensures.ok

pub returns-clause-within : goal.returns-clause-within
returns-clause-within c =
    on_ok_weaker c.push_node.result
    (λ h. plain-within (plain (tree c.args.content.now)) (subst (λ x. IsShapeWithin x) c.of_tree.ensures h)) c.push_node.ensures.within

pub returns-clause-err : goal.returns-clause-err
returns-clause-err c =
    on_err_weaker c.push_node.result
    (λ h. begun_as c.args.out.now c.push_node.new.out (document (place c.of_text.result) (node_shape c.of_tree.result))
    (document_of (blocks_if c.args.literal) (plain (tree c.args.content.now)))
    (told (place c.of_text.result) (blocks_if c.args.literal) (node_shape c.of_tree.result) (plain (tree c.args.content.now)) c.of_text.ensures c.of_tree.ensures)
    h)
    c.push_node.ensures.err
