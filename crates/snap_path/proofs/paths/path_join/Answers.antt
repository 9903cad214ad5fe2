use Rattle.snap_path.proofs.Prelude.{◌++◌, false, ap, sym, ◌∙◌, chars, components, then_slashed, stand_behind, start, is_absolute}
use Rattle.snap_path.proofs.Parts.{joined-below}
use Rattle.snap_path.proofs.paths.path_join.Goals as goal

pub returns : goal.returns
returns c =
    joined-below c.args.base.now c.args.tail.now c.push_components.new.path c.push_components-2.new.path c.begins_with-2.result c.in_ok-is_behind.is_behind
    (sym (c.begins_with.ensures ∙ ap is_absolute c.as_str.ensures) ∙ c.if-begins_with.false)
    (c.begins_with-2.ensures ∙ ap is_absolute c.as_str-2.ensures)
    (c.in_ok-is_behind.ensures.path ∙ ap (λ p. p ++ then_slashed false (components (chars c.as_str-3.result.now))) c.in_ok-path.ensures
    ∙ ap (λ t. start c.begins_with-2.result ++ then_slashed false (components t)) c.as_str-3.ensures)
    (c.in_ok-is_behind.ensures.behind ∙ ap (λ t. stand_behind false (components t)) c.as_str-3.ensures)
    (c.in_ok-push_components.ensures.path ∙ ap (λ t. c.push_components.new.path ++ then_slashed c.in_ok-is_behind.is_behind (components t)) c.as_str-4.ensures)
