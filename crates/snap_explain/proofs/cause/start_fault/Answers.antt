use Rattle.snap_explain.proofs.Prelude.{ap, ◌∙◌, length, chars}
use Rattle.snap_explain.specs.Starts.{blanks, start_of}
use Rattle.snap_explain.specs.Reasons.IsShown.{starts}
use Rattle.snap_explain.specs.declared.fault.LineFault.TheVariants as fault
use Rattle.snap_explain.proofs.cause.start_fault.Goals as goal

pub returns : goal.returns
returns c = λ none.
    let front = blanks (chars c.args.text.now) in
    let before = c.character_count.ensures ∙ ap length (c.before_rest-before.ensures front c.after_blanks-rest.ensures.front) in
    starts (ap (λ n. fault.Start n c.start_of.result) before ∙ ap (λ s. fault.Start (length front) s) (c.start_of.ensures ∙ ap start_of c.after_blanks-rest.ensures.rest)) none
