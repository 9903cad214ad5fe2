use Rattle.snap_path.proofs.Prelude.{ap, sym, ◌∙◌, chars-nil, chars, all_but_last, components}
use Rattle.snap_path.proofs.Parts.{all_but_last-push}
use Rattle.snap_path.proofs.paths.before_last.Goals as goal

pub returns-in-Some : goal.returns-in-Some
returns-in-Some c = sym (ap all_but_last c.in-Some.ensures ∙ all_but_last-push (components (chars c.in-Some.front.now)) (chars c.in-Some.field-0-1.now))

pub returns-in-None : goal.returns-in-None
returns-in-None c = ap components chars-nil ∙ sym (ap all_but_last c.in-None.ensures)
