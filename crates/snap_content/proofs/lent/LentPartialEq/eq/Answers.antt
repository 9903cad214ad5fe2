use Rattle.snap_content.proofs.Prelude.{◌∙◌}
use Rattle.snap_content.proofs.Ends.{same_texts}
use Rattle.snap_content.proofs.lent.LentPartialEq.eq.Goals as goal

pub returns : goal.returns
returns c = rw (← c.as_str.ensures, ← c.as_str-2.ensures) (c.eq.ensures ∙ same_texts _ _ c.as_str.utf8 c.as_str-2.utf8)
