use Rattle.snap_review.proofs.Prelude.{◌∷◌, [], refl, subst, codes, chars-ascii, answer_lines, IsPlanWith}
use Rattle.snap_review.specs.declared.plan.Put.TheVariants.{Nothing}
use Rattle.snap_review.proofs.plan.rejection.Goals as goal

pub returns-in-Ok : goal.returns-in-Ok
returns-in-Ok c =
    subst (λ word. IsPlanWith Nothing (c.args.waiting.now ∷ []) (answer_lines word c.args.changes.now) c.in-Ok.plan) (chars-ascii (codes "rejected") refl) c.in-Ok.ensures
