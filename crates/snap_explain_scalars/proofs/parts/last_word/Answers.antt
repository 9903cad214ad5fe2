use Rattle.snap_explain_scalars.proofs.Prelude.{◌∙◌, ap, chars, after_last}
use Rattle.snap_explain_scalars.proofs.Cuts.{last_part-is}
use Rattle.snap_explain_scalars.proofs.parts.last_word.Goals as goal

pub returns : goal.returns
returns c =
    last_part-is 58 (chars c.last_part.result.now) (chars c.last_part-2.result.now) c.last_part-2.ensures
    ∙ ap (after_last 58) (last_part-is 32 (chars c.trim_end.result.now) (chars c.last_part.result.now) c.last_part.ensures ∙ ap (after_last 32) c.trim_end.ensures)
