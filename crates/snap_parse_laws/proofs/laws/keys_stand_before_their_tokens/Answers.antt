use Rattle.snap_parse_laws.proofs.KeyPlaces.{key-stands}
use Rattle.snap_parse_laws.proofs.laws.keys_stand_before_their_tokens.Goals as goal

pub returns : goal.returns
returns c = key-stands
