use Rattle.std.specs.Str.{chars}
use Rattle.snap_assert.proofs.Prelude.{◌∙◌, sym, off, text_of, bytes_eq-Decides}
use Rattle.snap_content.specs.Plain.{plain, null}
use Rattle.snap_content.specs.View.{tree}
use Rattle.snap_assert.proofs.SameInfo.{prints_null, prints_other}
use Rattle.snap_assert.proofs.same_metadata.filled_text.Goals as goal

pub returns-then-is_same : goal.returns-then-is_same
returns-then-is_same c =
    prints_null (plain (tree c.args.info.now)) c.in_ok-text.text c.in_ok-text.ensures.within c.in_ok-text.ensures.printed
    (sym c.as_str.ensures ∙ (bytes_eq-Decides (chars c.as_str.result.now) (text_of off null)).0 (sym c.is_same.ensures ∙ c.if-is_same.true))

pub returns : goal.returns
returns c =
    prints_other (plain (tree c.args.info.now)) c.in_ok-text.text c.in_ok-text.ensures.within c.in_ok-text.ensures.printed
    (λ e.
    let yes = (bytes_eq-Decides (chars c.as_str.result.now) (text_of off null)).1 (c.as_str.ensures ∙ e) in
    let no = c.is_same.ensures in
    let other = c.if-is_same.false in cc (yes, no, other))
