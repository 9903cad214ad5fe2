-- What begins at a place.
use Rattle.std.specs.Prelude.{ℕ, ◌≡◌, ◌≢◌, List, Bool, true, ◌==◌, ◌||◌, ◌&&◌, if◌then◌else◌, slice_index}
use Rattle.snap_scan_tokens.specs.Place.{Place}
use Rattle.snap_scan_tokens.specs.Causes.{explains}
use Rattle.snap_scan_tokens.specs.Characters.{is_blank_or_end, is_flow_sign, is_document_start, is_document_end}
use Rattle.snap_scan_tokens.specs.declared.info.ScanInfo.TheVariants as i
use Rattle.snap_scan.specs.declared.kind.TokenKind.{TokenKind}
use Rattle.snap_scan.specs.declared.kind.TokenKind.TheVariants as k

-- the next character is a blank, a break or the end
abbrev pub is_alone : List ℕ → Bool
is_alone cs = is_blank_or_end (slice_index cs 1)

-- a `:` that ends a key: alone, or in flow before a sign of flow or right after a quoted scalar
abbrev pub is_value : Bool → ℕ → Place → Bool
is_value flow adjacent p = is_alone p.left || (flow && (is_flow_sign (slice_index p.left 1) || p.index == adjacent))

abbrev pub kind_of_sign : Bool → ℕ → Place → ℕ → TokenKind
kind_of_sign flow adjacent p c =
    if c == 91 then k.FlowSequenceStart else (
    if c == 123 then k.FlowMappingStart else (
    if c == 93 then k.FlowSequenceEnd else (
    if c == 125 then k.FlowMappingEnd else (
    if c == 44 then k.FlowEntry else (
    if c == 45 then (if is_alone p.left then k.BlockEntry else k.Plain) else (
    if c == 63 then (if is_alone p.left then k.Key else k.Plain) else (
    if c == 58 then (if is_value flow adjacent p then k.Value else k.Plain) else (
    if c == 42 then k.Alias else (
    if c == 38 then k.Anchor else (
    if c == 33 then k.Tag else (
    if c == 124 then (if flow then k.Plain else k.Literal) else (
    if c == 62 then (if flow then k.Plain else k.Folded) else (
    if c == 39 then k.SingleQuoted else (
    if c == 34 then k.DoubleQuoted else (
    if c == 37 then k.Refused i.S3 else (
    if c == 64 then k.Refused i.S4 else (
    if c == 96 then k.Refused i.S5 else k.Plain)))))))))))))))))

-- what begins at a place: the end, at column 0 a directive or a document's sign, else by its first character
abbrev pub kind_of : Bool → ℕ → Place → TokenKind
kind_of flow adjacent p =
    if slice_index p.left 0 == 0 then k.StreamEnd else (
    if p.col == 0 && slice_index p.left 0 == 37 then k.Directive else (
    if is_document_start p then k.DocumentStart else (
    if is_document_end p then k.DocumentEnd else kind_of_sign flow adjacent p (slice_index p.left 0))))

-- the first character of what begins so
abbrev pub Begins : TokenKind → ℕ → Type 0
Begins k.StreamEnd c = c ≡ 0
Begins k.Directive c = c ≡ 37
Begins k.DocumentStart c = c ≡ 45
Begins k.DocumentEnd c = c ≡ 46
Begins k.FlowSequenceStart c = c ≡ 91
Begins k.FlowMappingStart c = c ≡ 123
Begins k.FlowSequenceEnd c = c ≡ 93
Begins k.FlowMappingEnd c = c ≡ 125
Begins k.FlowEntry c = c ≡ 44
Begins k.BlockEntry c = c ≡ 45
Begins k.Key c = c ≡ 63
Begins k.Value c = c ≡ 58
Begins k.Alias c = c ≡ 42
Begins k.Anchor c = c ≡ 38
Begins k.Tag c = c ≡ 33
Begins k.Literal c = c ≡ 124
Begins k.Folded c = c ≡ 62
Begins k.SingleQuoted c = c ≡ 39
Begins k.DoubleQuoted c = c ≡ 34
Begins k.Plain c = c ≢ 0
Begins (k.Refused info) c = (explains c info ≡ true) × (c ≢ 0)
