use Rattle.snap_parse_events.proofs.WholeStreams.{whole-streams}
use Rattle.snap_parse_events.proofs.laws.whole_streams.Goals as goal

pub returns : goal.returns
returns c = whole-streams
