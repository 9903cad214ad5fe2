use Rattle.snap_parse.proofs.Folds.{stream-steps}
use Rattle.snap_parse.proofs.laws.documents_are_the_values_of_nodes.Goals as goal

pub returns : goal.returns
returns c = stream-steps
