use Rattle.snap_parse.proofs.PrintedValues.{document-read}
use Rattle.snap_parse.proofs.laws.printed_trees_are_read_as_they_are.Goals as goal

pub returns : goal.returns
returns c = document-read
