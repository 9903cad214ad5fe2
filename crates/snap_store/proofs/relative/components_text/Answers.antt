use Rattle.snap_store.proofs.Prelude.{sym, ap, ◌∙◌, IfOk-weaker, components, is_absolute, slashed}
use Rattle.snap_store.proofs.Relatives.{from_root}
use Rattle.snap_store.proofs.relative.components_text.Goals as goal

pub returns-then-begins_with : goal.returns-then-begins_with
returns-then-begins_with c =
    let absolute = ap is_absolute (sym c.as_str.ensures) ∙ sym c.begins_with.ensures ∙ c.if-begins_with.true in
    IfOk-weaker c.path_relative_from.result _ _
    (λ seen h. h ∙ from_root c.in_ok-text.text c.in_ok-root.root absolute c.in_ok-root.ensures ∙ ap (λ path. slashed (components path)) c.in_ok-text.ensures)
    c.path_relative_from.ensures
