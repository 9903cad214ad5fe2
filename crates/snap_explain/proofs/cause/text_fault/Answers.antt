use Rattle.snap_explain.proofs.Prelude.{ap, sym, ◌∙◌, chars}
use Rattle.snap_explain.specs.Reasons.IsShown.{nul}
use Rattle.snap_explain.specs.declared.fault.LineFault.TheVariants as fault
use Rattle.snap_explain.proofs.cause.text_fault.Goals as goal

pub returns-in-Some : goal.returns-in-Some
returns-in-Some c = nul (chars c.in-Some.before.now) (chars c.in-Some.field-0-1.now) (ap fault.Nul c.character_count.ensures) c.in-Some.ensures.cut

pub returns-in-None : goal.returns-in-None
returns-in-None c = c.start_fault.ensures (sym c.beginning_in.ensures ∙ c.in-None.is)
