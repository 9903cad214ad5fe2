use Rattle.snap_text_literals.proofs.Prelude.{◌++◌, sym, ap, ◌∙◌, chars, space_front}
use Rattle.snap_text_literals.proofs.Frames.{signed, unsigned, space-then}
use Rattle.snap_text_literals.proofs.frame.split_sign.Goals as goal

pub returns-in-None : goal.returns-in-None
returns-in-None c = unsigned (chars c.args.text.now) _ c.trim_start-body.ensures c.in-None.ensures

pub returns-in-Some : goal.returns-in-Some
returns-in-Some c = signed _ _ _ _ c.trim_start-body.ensures c.in-Some.ensures c.before_rest.ensures

pub before_rest-requires : goal.before_rest-requires
before_rest-requires c =
    let front = space_front (chars c.args.text.now) in
    (front, space-then (chars c.args.text.now) ∙ ap (λ t. front ++ t) (sym c.trim_start-body.ensures))
