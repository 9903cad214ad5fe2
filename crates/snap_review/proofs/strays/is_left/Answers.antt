use Rattle.snap_review.proofs.Prelude.{sym, ap, ◌∙◌, is_some}
use Rattle.snap_review.specs.Strays.{goes_on}
use Rattle.snap_review.proofs.strays.is_left.Goals as goal

pub returns-in-None : goal.returns-in-None
returns-in-None c = sym (ap goes_on c.in-None.ensures)

pub returns-in-None-behind_ascii : goal.returns-in-None-behind_ascii
returns-in-None-behind_ascii c = sym (ap goes_on c.in-Some.ensures ∙ ap is_some c.in-None-behind_ascii.ensures)

pub returns-in-Some-behind_ascii : goal.returns-in-Some-behind_ascii
returns-in-Some-behind_ascii c = sym (ap goes_on c.in-Some.ensures ∙ ap is_some c.in-Some-behind_ascii.ensures)
