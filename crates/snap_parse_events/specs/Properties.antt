-- What anchors and tags do to the event of a node.
use Rattle.std.specs.Prelude.{◌≡◌, ℕ, Bool, true, false, if◌then◌else◌, codes, Option}
use Rattle.std.specs.Str.{chars}
use Rattle.snap_scan_tokens.specs.declared.tag.Tag.{Tag}
use Rattle.snap_scan_tokens.specs.declared.token.TokenType.{TokenType}
use Rattle.snap_scan_tokens.specs.declared.token.TokenType.TheVariants as k
use Rattle.snap_scan_tokens.specs.declared.token.TScalarStyle.TheVariants as style
use Rattle.snap_parse_events.specs.declared.event.Event.{Event}
use Rattle.snap_parse_events.specs.declared.event.Event.TheVariants as e
use Rattle.snap_parse_events.specs.declared.state.Context.{Context}
use Rattle.snap_parse_events.specs.Context.{takes_blocks, takes_indentless}

-- where no node begins after an anchor or a tag: the empty text with them
abbrev pub empty_text : ℕ → Option Tag → Event
empty_text id tag = e.Scalar (chars (codes "")) style.Plain id tag

-- the event of the node that a token begins, after this anchor (0 where there is none) and this tag
abbrev pub content_event : Context → ℕ → Option Tag → TokenType → Event
content_event c id tag (k.Scalar style text) = e.Scalar text style id tag
content_event c id tag k.FlowSequenceStart = e.SequenceStart id
content_event c id tag k.FlowMappingStart = e.MappingStart id
content_event c id tag k.BlockSequenceStart = (if takes_blocks c then e.SequenceStart id else empty_text id tag)
content_event c id tag k.BlockMappingStart = (if takes_blocks c then e.MappingStart id else empty_text id tag)
content_event c id tag k.BlockEntry = (if takes_indentless c then e.SequenceStart id else empty_text id tag)
content_event c id tag _ = empty_text id tag

-- the event of a node with this anchor
abbrev pub HasAnchor : ℕ → Event → Type 0
HasAnchor id (e.Scalar text style i tag) = i ≡ id
HasAnchor id (e.SequenceStart i) = i ≡ id
HasAnchor id (e.MappingStart i) = i ≡ id
HasAnchor id _ = ⊥

-- the event of a node with this tag, which lists and dicts don't show
abbrev pub HasTag : Option Tag → Event → Type 0
HasTag tag (e.Scalar text style id t) = t ≡ tag
HasTag tag (e.SequenceStart id) = Unit {0}
HasTag tag (e.MappingStart id) = Unit {0}
HasTag tag _ = ⊥

-- an anchor, a tag or an alias
abbrev pub is_property : TokenType → Bool
is_property (k.Alias name) = true
is_property (k.Anchor name) = true
is_property (k.Tag tag) = true
is_property _ = false

abbrev pub is_anchor : TokenType → Bool
is_anchor (k.Anchor name) = true
is_anchor _ = false

abbrev pub is_tag : TokenType → Bool
is_tag (k.Tag tag) = true
is_tag _ = false
