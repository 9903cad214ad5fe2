use Rattle.snap_parse.proofs.PrintedRuns.{printed-events}
use Rattle.snap_parse.proofs.laws.printed_tokens_yield_their_events.Goals as goal

pub returns : goal.returns
returns c = printed-events
