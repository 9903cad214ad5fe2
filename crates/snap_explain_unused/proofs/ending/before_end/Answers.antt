use Rattle.snap_explain_unused.proofs.Prelude.{◌∙◌, ◌++◌, sym, ap, chars, chars-ascii}
use Rattle.snap_explain_unused.proofs.Endings.{ends_so, front_is, ends_else}
use Rattle.snap_explain_unused.proofs.ending.before_end.Goals as goal

pub returns-in-None : goal.returns-in-None
returns-in-None c =
    ends_else c.args.end.now (chars c.args.text.now) (λ front e. c.in-None.ensures front (e ∙ ap (λ x. front ++ x) (sym (chars-ascii c.args.end.now c.requires))))

pub returns-in-Some : goal.returns-in-Some
returns-in-Some c =
    let is = c.in-Some.ensures ∙ ap (λ x. chars c.in-Some.front.now ++ x) (chars-ascii c.args.end.now c.requires) in
    (ends_so c.args.end.now (chars c.args.text.now) (chars c.in-Some.front.now) is, front_is c.args.end.now (chars c.args.text.now) (chars c.in-Some.front.now) is)
