use Rattle.snap_assert_place.proofs.Prelude.{sym, ap, ◌∙◌, IfOk-weaker, joined}
use Rattle.snap_content.specs.Front.{begins}
use Rattle.snap_assert_place.proofs.BelowPaths.{seen-below}
use Rattle.snap_assert_place.proofs.below.seen_below.Goals as goal

pub returns-else-begins_with : goal.returns-else-begins_with
returns-else-begins_with c =
    let relative = ap (begins 47) (sym c.as_str.ensures) ∙ sym c.begins_with.ensures ∙ c.if-begins_with.false in
    IfOk-weaker c.path_join-else-begins_with-2.result _ _
    (λ seen h. h ∙ ap (λ e. joined e c.args.file.now) c.empty.ensures ∙ seen-below c.args.base.now c.args.file.now relative)
    c.path_join-else-begins_with-2.ensures
