use Rattle.snap_review.proofs.Prelude.{◌∷◌, [], refl, subst, codes, chars-ascii, answer_lines, IsPlanWith}
use Rattle.snap_review.proofs.plan.acceptance.Goals as goal

pub returns-in-Ok-plan_with : goal.returns-in-Ok-plan_with
returns-in-Ok-plan_with c = record {
  put = c.in-Ok.put;
  made_is = c.in-Ok.ensures;
  plan_is = subst (λ word. IsPlanWith c.in-Ok.put (c.args.waiting.now ∷ []) (answer_lines word c.args.changes.now) c.in-Ok-plan_with.plan) (chars-ascii (codes "accepted") refl) c.in-Ok-plan_with.ensures;
}
