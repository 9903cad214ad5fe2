use Rattle.snap_content.proofs.PlainMade.{plain_made}
use Rattle.snap_content.proofs.laws.made_trees_are_plain.Goals as goal

pub returns : goal.returns
returns c = plain_made
