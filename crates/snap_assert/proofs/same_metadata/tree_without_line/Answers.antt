use Rattle.snap_assert.proofs.Prelude.{◌∙◌, sym, ap, subst, without_line, IfOk-weaker}
use Rattle.snap_store.specs.MetaTree.{meta_tree, TellsFields, without_nil_info}
use Rattle.snap_store.specs.Views.{meta_of}
use Rattle.snap_assert.proofs.SameInfo.{tells_without_line}
use Rattle.snap_assert.proofs.same_metadata.tree_without_line.Goals as goal

pub returns : goal.returns
returns c =
    let m = meta_of c.args.metadata.now in
    IfOk-weaker c.to_content-made.result _ _ (λ made h.
    subst (λ t. TellsFields t (without_nil_info (without_line m))) (sym (h ∙ ap meta_tree (c.set_assertion_line.ensures ∙ ap without_line c.in_ok-kept.ensures))) (tells_without_line m))
    c.to_content-made.ensures
