use Rattle.snap_parse.proofs.JsonValues.{json-read}
use Rattle.snap_parse.proofs.laws.json_trees_are_read_as_they_are.Goals as goal

pub returns : goal.returns
returns c = json-read
