-- What a token that was put back tells of the event that comes next.
use Rattle.std.specs.Prelude.{◌≡◌, ℕ, List, Bool, true, false, Some, Result, IfOk}
use Rattle.snap_scan_tokens.specs.Mark.{Mark}
use Rattle.snap_scan_tokens.specs.declared.info.ScanError.{ScanError}
use Rattle.snap_scan_tokens.specs.declared.tag.Tag.{Tag}
use Rattle.snap_scan_tokens.specs.declared.token.Token.{Token}
use Rattle.snap_scan_tokens.specs.declared.token.TokenType.{TokenType}
use Rattle.snap_scan_tokens.specs.declared.token.TokenType.TheVariants as k
use Rattle.snap_parse_events.specs.declared.event.Event.{Event}
use Rattle.snap_parse_events.specs.declared.state.State.{State}
use Rattle.snap_parse_events.specs.declared.state.State.TheVariants as s
use Rattle.snap_parse_events.specs.declared.state.Stage.{Stage}
use Rattle.snap_parse_events.specs.declared.state.Stage.TheVariants as g
use Rattle.snap_parse_events.specs.declared.tokens.Tokens.{Tokens}
use Rattle.snap_parse_events.specs.Ends.{is_directive, is_document_end}
use Rattle.snap_parse_events.specs.Properties.{HasAnchor, HasTag}

-- an anchor or a tag, which stands before its node
abbrev pub is_prefix : TokenType → Bool
is_prefix (k.Anchor name) = true
is_prefix (k.Tag tag) = true
is_prefix _ = false

abbrev pub is_entry : TokenType → Bool
is_entry k.BlockEntry = true
is_entry _ = false

abbrev pub is_comma : TokenType → Bool
is_comma k.FlowEntry = true
is_comma _ = false

abbrev pub is_key : TokenType → Bool
is_key k.Key = true
is_key _ = false

abbrev pub is_value : TokenType → Bool
is_value k.Value = true
is_value _ = false

-- in this state an event is made of the token alone: it isn't one of those after which a further one is taken
abbrev pub Suffices : State → TokenType → Type 0
Suffices s.ImplicitDocumentStart t = is_directive t ≡ false
Suffices s.DocumentStart t = (is_document_end t ≡ false) × (is_directive t ≡ false)
Suffices s.DocumentContent t = is_prefix t ≡ false
Suffices s.BlockNode t = is_prefix t ≡ false
Suffices s.DocumentEnd t = Unit {0}
Suffices s.BlockSequenceEntry t = is_entry t ≡ false
Suffices s.IndentlessSequenceEntry t = is_entry t ≡ false
Suffices s.BlockMappingKey t = is_key t ≡ false
Suffices s.BlockMappingValue t = is_value t ≡ false
Suffices s.BlockMappingContent t = is_prefix t ≡ false
Suffices s.FlowSequenceFirstEntry t = is_prefix t ≡ false
Suffices s.FlowSequenceEntry t = is_comma t ≡ false
Suffices s.FlowSequenceEntryMappingKey t = is_prefix t ≡ false
Suffices s.FlowSequenceEntryMappingValue t = is_value t ≡ false
-- the end of a pair in a list takes no token
Suffices s.FlowSequenceEntryMappingEnd t = ⊥
Suffices s.FlowMappingFirstKey t = (is_key t ≡ false) × (is_prefix t ≡ false)
Suffices s.FlowMappingKey t = is_comma t ≡ false
Suffices s.FlowMappingValue t = is_value t ≡ false
Suffices s.FlowMappingEmptyValue t = Unit {0}

-- the same, where the stream may be ahead; at its end no token is taken
abbrev pub SufficesAt : Stage → TokenType → Type 0
SufficesAt g.Ahead t = Unit {0}
SufficesAt (g.Open y) t = Suffices y t
SufficesAt g.Ended t = ⊥

-- the end of a pair in a list that is written without braces
abbrev pub is_pair_end : State → Bool
is_pair_end s.FlowSequenceEntryMappingEnd = true
is_pair_end _ = false

-- whether the end of a dict that is one pair of a list comes next
abbrev pub is_pair_end_at : Stage → Bool
is_pair_end_at (g.Open y) = is_pair_end y
is_pair_end_at _ = false

-- the first token that is taken in this state may be an anchor or a tag of its event
abbrev pub begins_node : State → Bool
begins_node s.DocumentContent = true
begins_node s.BlockNode = true
begins_node s.BlockMappingContent = true
begins_node s.FlowSequenceFirstEntry = true
begins_node s.FlowSequenceEntryMappingKey = true
begins_node s.FlowMappingFirstKey = true
begins_node _ = false

-- whether the first token that is taken next may be an anchor or a tag of its event
abbrev pub begins_node_at : Stage → Bool
begins_node_at (g.Open y) = begins_node y
begins_node_at _ = false

-- where such a token was put back, the event has its mark
abbrev pub MarkedBy : (TokenType → Type 0) → Result (Event × Mark) ScanError → Tokens → Type 0
MarkedBy suffices r old = (token : Token) → old.held ≡ Some token → suffices token.1 → IfOk r (λ given. given.1 ≡ token.0)

-- where a tag was put back, the event has it
abbrev pub TaggedBy : Result (Event × Mark) ScanError → Tokens → Type 0
TaggedBy r old =
    (token : Token) (tag : Tag) → old.held ≡ Some token → token.1 ≡ k.Tag tag → IfOk r (λ given. HasTag (Some tag) given.0)

-- where an anchor was put back, the event has this number
abbrev pub AnchoredBy : ℕ → Result (Event × Mark) ScanError → Tokens → Type 0
AnchoredBy id r old = (token : Token) (name : List ℕ) → old.held ≡ Some token → token.1 ≡ k.Anchor name → IfOk r (λ given. HasAnchor id given.0)
