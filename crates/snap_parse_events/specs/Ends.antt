-- The tokens at which a node is empty.
use Rattle.std.specs.Prelude.{Bool, true, false}
use Rattle.snap_scan_tokens.specs.declared.token.TokenType.{TokenType}
use Rattle.snap_scan_tokens.specs.declared.token.TokenType.TheVariants as k
use Rattle.snap_parse_events.specs.declared.state.Ends.{Ends}
use Rattle.snap_parse_events.specs.declared.state.Ends.TheVariants as n

abbrev pub ends_document : TokenType → Bool
ends_document (k.VersionDirective a b) = true
ends_document (k.TagDirective tag) = true
ends_document k.DocumentStart = true
ends_document k.DocumentEnd = true
ends_document k.StreamEnd = true
ends_document _ = false

abbrev pub ends_block_entry : TokenType → Bool
ends_block_entry k.BlockEntry = true
ends_block_entry k.BlockEnd = true
ends_block_entry _ = false

abbrev pub ends_indentless_entry : TokenType → Bool
ends_indentless_entry k.BlockEntry = true
ends_indentless_entry k.Key = true
ends_indentless_entry k.Value = true
ends_indentless_entry k.BlockEnd = true
ends_indentless_entry _ = false

abbrev pub ends_block_pair : TokenType → Bool
ends_block_pair k.Key = true
ends_block_pair k.Value = true
ends_block_pair k.BlockEnd = true
ends_block_pair _ = false

abbrev pub ends_flow_key : TokenType → Bool
ends_flow_key k.Value = true
ends_flow_key k.FlowEntry = true
ends_flow_key k.FlowMappingEnd = true
ends_flow_key _ = false

abbrev pub ends_flow_value : TokenType → Bool
ends_flow_value k.FlowEntry = true
ends_flow_value k.FlowMappingEnd = true
ends_flow_value _ = false

abbrev pub ends_flow_pair_value : TokenType → Bool
ends_flow_pair_value k.FlowEntry = true
ends_flow_pair_value k.FlowSequenceEnd = true
ends_flow_pair_value _ = false

abbrev pub ends_at : Ends → TokenType → Bool
ends_at n.Document t = ends_document t
ends_at n.BlockEntry t = ends_block_entry t
ends_at n.IndentlessEntry t = ends_indentless_entry t
ends_at n.BlockPair t = ends_block_pair t
ends_at n.FlowKey t = ends_flow_key t
ends_at n.FlowValue t = ends_flow_value t
ends_at n.FlowPairValue t = ends_flow_pair_value t

abbrev pub is_document_end : TokenType → Bool
is_document_end k.DocumentEnd = true
is_document_end _ = false

abbrev pub is_directive : TokenType → Bool
is_directive (k.VersionDirective a b) = true
is_directive (k.TagDirective tag) = true
is_directive _ = false
