use Rattle.snap_explain_unused.proofs.Prelude.{◌∙◌, sym, ap, cond, chars, codes, before_end}
use Rattle.snap_explain_unused.proofs.ending.base_of.Goals as goal

pub returns-in-None : goal.returns-in-None
returns-in-None c = let path = chars c.args.path.now in sym (ap (λ b. cond b (before_end (codes ".new") path) path) c.in-None.ensures)

pub returns-in-Some : goal.returns-in-Some
returns-in-Some c = let path = chars c.args.path.now in c.in-Some.ensures.1 ∙ sym (ap (λ b. cond b (before_end (codes ".new") path) path) c.in-Some.ensures.0)
