use Rattle.snap_review.proofs.OnePatch.{marked_one, marked_some}
use Rattle.snap_review.proofs.laws.one_place.Goals as goal

pub returns-clause-one : goal.returns-clause-one
returns-clause-one c = marked_one

pub returns-clause-none : goal.returns-clause-none
returns-clause-none c = marked_some
