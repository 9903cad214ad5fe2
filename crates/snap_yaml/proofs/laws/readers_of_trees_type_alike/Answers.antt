use Rattle.snap_yaml.proofs.Through.{typed_through}
use Rattle.snap_yaml.proofs.laws.readers_of_trees_type_alike.Goals as goal

pub returns : goal.returns
returns c = typed_through
