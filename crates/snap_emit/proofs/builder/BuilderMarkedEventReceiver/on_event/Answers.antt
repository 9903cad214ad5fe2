use Rattle.snap_emit.proofs.Prelude.{◌||◌, Bool, sym, ◌∙◌, ap}
use Rattle.snap_parse.specs.Aliases.{is_alias}
use Rattle.snap_parse.specs.Steps.{start, steps}
use Rattle.snap_parse.proofs.Folds.{steps-more, alias-more}
use Rattle.snap_emit.specs.Built.{BuildState, state_read, step_read}
use Rattle.snap_emit.proofs.Building.{step-read}
use Rattle.snap_emit.proofs.builder.BuilderMarkedEventReceiver.on_event.Goals as goal

pub returns-in-Ok-clause-ok : goal.returns-in-Ok-clause-ok
returns-in-Ok-clause-ok c =
    λ xs h _.
    let f : BuildState → BuildState = λ s. step_read c.args.ev s in
    let g : Bool → Bool = λ b. is_alias c.args.ev || b in
    let was = h c.if-self.false in (
      c.in-Ok.ensures.made ∙ ap f was.0 ∙ sym (step-read c.args.ev (steps xs start)) ∙ sym (ap state_read (steps-more xs c.args.ev start)),
      c.in-Ok.ensures.alias ∙ ap g was.1 ∙ sym (alias-more xs c.args.ev),
    )
