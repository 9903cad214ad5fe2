use Rattle.snap_review.proofs.Prelude.{◌++◌, sym, ap, ◌∙◌, arith, chars}
use Rattle.snap_review.proofs.Puttings.{gap_bytes, has_gap}
use Rattle.snap_review.proofs.patching.gap_before.Goals as goal

pub returns-then-rest-here : goal.returns-then-rest-here
returns-then-rest-here c = λ gap e. omega (arith, gap_bytes c.args.rest.now c.args.here.now gap c.utf8.rest c.utf8.here e, c.if-rest-here.true)

pub before_rest-requires : goal.before_rest-requires
before_rest-requires c =
    let g = has_gap _ c.args.rest.now c.args.here.now _ _ c.utf8.rest c.utf8.here c.requires.rest.1 c.requires.here.1 c.if-rest-here.false in
    (g.gap, g.is)

pub returns : goal.returns
returns c =
    let g = has_gap _ c.args.rest.now c.args.here.now _ _ c.utf8.rest c.utf8.here c.requires.rest.1 c.requires.here.1 c.if-rest-here.false in
    g.is ∙ ap (λ x. x ++ chars c.args.here.now) (sym (c.before_rest.ensures g.gap g.is))
