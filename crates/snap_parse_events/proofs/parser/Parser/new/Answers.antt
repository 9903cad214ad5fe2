use Rattle.snap_parse_events.proofs.Prelude.{spot_of}
use Rattle.std.specs.Str.{chars}
use Rattle.snap_scan_tokens.specs.Place.{before_nul}
use Rattle.snap_parse_events.proofs.Giving.{new-gives}
use Rattle.snap_parse_events.proofs.parser.Parser.new.Goals as goal

pub returns-clause-gives : goal.returns-clause-gives
returns-clause-gives c =
    λ tokens events owes yields. new-gives (before_nul (chars c.args.source.now)) c.new.result.tokens (spot_of c.new.result) c.new.result.anchors tokens events c.new.ensures.tokens
    c.new.ensures.spot owes yields
