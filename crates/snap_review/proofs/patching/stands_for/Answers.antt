use Rattle.snap_review.proofs.Prelude.{◌++◌, sym, ap, ◌∙◌, chars}
use Rattle.snap_review.proofs.Puttings.{stands_iff}
use Rattle.snap_review.proofs.patching.stands_for.Goals as goal

pub returns-in-Ok-is_normal_of : goal.returns-in-Ok-is_normal_of
returns-in-Ok-is_normal_of c =
    stands_iff _ (chars c.args.here.now) (chars c.args.behind.now) (chars c.before_rest-literal.result.now) c.in-Ok.text c.args.normal.now
    (c.requires.is ∙ ap (λ x. x ++ chars c.args.behind.now) (sym (c.before_rest-literal.ensures c.requires.front c.requires.is))) c.in-Ok.ensures
    (λ t u. c.one_text.ensures (chars c.before_rest-literal.result.now) t u) c.in-Ok-is_normal_of.ensures
