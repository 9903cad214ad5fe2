use Rattle.snap_demo.proofs.Prelude.{refl}
use Rattle.std.specs.Fmt.{digits}
use Rattle.snap_demo.proofs.laws.worked_examples.Goals as goal

pub returns-clause-values : goal.returns-clause-values
unfolding digits
returns-clause-values c = (refl, refl)

pub returns-clause-places : goal.returns-clause-places
unfolding digits
returns-clause-places c = (refl, refl, refl)

pub returns-clause-document : goal.returns-clause-document
unfolding digits
returns-clause-document c = refl

pub returns-clause-lines : goal.returns-clause-lines
unfolding digits
returns-clause-lines c = refl
