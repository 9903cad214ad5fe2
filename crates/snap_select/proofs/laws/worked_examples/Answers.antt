use Rattle.snap_select.proofs.WorkedExamples.{selected, refused}
use Rattle.snap_select.proofs.laws.worked_examples.Goals as goal

pub returns-clause-selected : goal.returns-clause-selected
returns-clause-selected c = selected

pub returns-clause-refused : goal.returns-clause-refused
returns-clause-refused c = refused
