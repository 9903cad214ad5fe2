use Rattle.snap_parse_events.proofs.WholeStreams.{whole-fronts}
use Rattle.snap_parse_events.proofs.laws.fronts_of_streams.Goals as goal

pub returns : goal.returns
returns c = whole-fronts
