-- The documents that a text is, as nodes.
use Rattle.std.specs.Prelude.{ℕ, List}
use Rattle.snap_scan_tokens.specs.Place.{before_nul}
use Rattle.snap_scan_tokens.specs.declared.token.TokenType.{TokenType}
use Rattle.snap_scan.specs.Owed.{Owes}
use Rattle.snap_scan.specs.Scan.{start_scan}
use Rattle.snap_parse_events.specs.Nodes.{Node, stream_events}
use Rattle.snap_parse_events.specs.Place.{start_spot}
use Rattle.snap_parse_events.specs.Twin.{Yields}

-- a scanner of the text, which ends at its first NUL, returns tokens, and a parser makes of them the events of these documents
pub record AreNodesOf (text : List ℕ) (nodes : List Node) : Type 0 where
  pub tokens : List TokenType
  pub owes : Owes (start_scan (before_nul text)).state tokens
  pub yields : Yields start_spot tokens (stream_events nodes)
