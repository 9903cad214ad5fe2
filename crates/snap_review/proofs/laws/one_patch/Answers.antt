use Rattle.snap_review.proofs.OnePatch.{one_patch, not_refused}
use Rattle.snap_review.proofs.laws.one_patch.Goals as goal

pub returns-clause-one : goal.returns-clause-one
returns-clause-one c = λ source changes made other. one_patch source source changes made other

pub returns-clause-taken : goal.returns-clause-taken
returns-clause-taken c = λ source changes made refusal. not_refused source source changes made refusal
