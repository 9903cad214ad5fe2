use Rattle.snap_parse_laws.proofs.KeyPlaces.{plain-named, quoted-named, read-named}
use Rattle.snap_parse_laws.proofs.laws.possible_keys_are_their_tokens.Goals as goal

pub returns-clause-plain : goal.returns-clause-plain
returns-clause-plain c = plain-named

pub returns-clause-quoted : goal.returns-clause-quoted
returns-clause-quoted c = quoted-named

pub returns-clause-read : goal.returns-clause-read
returns-clause-read c = read-named
