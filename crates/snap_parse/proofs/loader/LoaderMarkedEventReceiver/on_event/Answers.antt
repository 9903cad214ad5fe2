use Rattle.snap_parse.proofs.Prelude.{◌||◌, Bool, sym, ◌∙◌, ap, LoadState, step, start, is_alias}
use Rattle.snap_parse.proofs.Folds.{steps-more, alias-more}
use Rattle.snap_parse.proofs.loader.LoaderMarkedEventReceiver.on_event.Goals as goal

pub returns-in-Ok-clause-ok : goal.returns-in-Ok-clause-ok
returns-in-Ok-clause-ok c =
    λ xs h _.
    let f : LoadState → LoadState = λ s. step c.args.ev s in
    let g : Bool → Bool = λ b. is_alias c.args.ev || b in
    let was = h c.if-self.false in
    (c.in-Ok.ensures.made ∙ ap f was.0 ∙ sym (steps-more xs c.args.ev start), c.in-Ok.ensures.alias ∙ ap g was.1 ∙ sym (alias-more xs c.args.ev))
