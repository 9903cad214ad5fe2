use Rattle.snap_review.proofs.Choosing.{text_shown}
use Rattle.snap_review.proofs.chosen.text_of.Goals as goal

pub returns-in-Some-as_text : goal.returns-in-Some-as_text
returns-in-Some-as_text c = text_shown _ _ _ _ c.as_raw.ensures c.in-Some-as_text.ensures c.in-Some.is
