use Rattle.snap_parse_laws_json.proofs.Events.{json-events}
use Rattle.snap_parse_laws_json.proofs.laws.json_tokens_yield_their_events.Goals as goal

pub returns : goal.returns
returns c = json-events
