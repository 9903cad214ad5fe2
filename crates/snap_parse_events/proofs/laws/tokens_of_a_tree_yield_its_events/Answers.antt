use Rattle.snap_parse_events.proofs.TreeRuns.{document}
use Rattle.snap_parse_events.proofs.laws.tokens_of_a_tree_yield_its_events.Goals as goal

pub returns : goal.returns
returns c = document
