-- The header of a block scalar: what stands after `|` or `>` on its line.
use Rattle.std.specs.Prelude.{ℕ, ◌-◌, ◌==◌, if◌then◌else◌, slice_index, Option, Some, None, is_some, Result, Ok, Err, ◌≡◌}
use Rattle.snap_scan_blocks.specs.declared.header.Chomping.{Chomping}
use Rattle.snap_scan_blocks.specs.declared.header.Chomping.TheVariants.{Strip, Clip, Keep}
use Rattle.snap_scan_blocks.specs.declared.header.Header.{Header}
use Rattle.snap_scan_tokens.specs.declared.info.ScanError.{ScanError}
use Rattle.snap_scan_tokens.specs.declared.info.ScanInfo.{ScanInfo}
use Rattle.snap_scan_tokens.specs.declared.info.ScanInfo.TheVariants as i
use Rattle.snap_scan_tokens.specs.Characters.{is_digit, is_break_or_end, past_break, past_comment}
use Rattle.snap_scan_tokens.specs.Place.{Place, skipped}

-- `+` keeps the line ends after the last line, `-` drops them
abbrev pub chomping_of : ℕ → Option Chomping
chomping_of c = if c == 43 then Some Keep else (if c == 45 then Some Strip else None)

-- no sign keeps one line end
abbrev pub or_clip : Option Chomping → Chomping
or_clip None = Clip
or_clip (Some chomping) = chomping

abbrev pub digit_of : ℕ → Option ℕ
digit_of c = if is_digit c then Some (c - 48) else None

abbrev pub past_sign : Place → Place
past_sign p = if is_some (chomping_of (slice_index p.left 0)) then skipped p else p

abbrev pub past_digit : Place → Place
past_digit p = if is_digit (slice_index p.left 0) then skipped p else p

-- a header that was read, and the place after it
pub record Headed : Type 0 where
  pub header : Header
  pub place : Place

abbrev pub headed : Chomping → Option ℕ → Place → Option Headed
headed chomping indentation p = Some (record { header = record { chomping = chomping; indentation = indentation }; place = p })

-- the digit after a sign, which may be missing
abbrev pub sign_first : Chomping → Place → Option Headed
sign_first chomping p =
    if slice_index p.left 0 == 48 then None else headed chomping (digit_of (slice_index p.left 0)) (past_digit p)

-- a digit and a sign after it, or the digit alone, or neither
abbrev pub digit_first : Place → Option Headed
digit_first p =
    if slice_index p.left 0 == 48 then None else (
    if is_digit (slice_index p.left 0)
    then headed (or_clip (chomping_of (slice_index (skipped p).left 0))) (digit_of (slice_index p.left 0)) (past_sign (skipped p))
    else headed Clip None p)

abbrev pub signs_after : Option Chomping → Place → Option Headed
signs_after (Some chomping) p = sign_first chomping (skipped p)
signs_after None p = digit_first p

-- at most one sign and at most one digit from 1 to 9, in either order
abbrev pub signs : Place → Option Headed
signs p = signs_after (chomping_of (slice_index p.left 0)) p

-- blanks and a comment may follow, and then the line ends
abbrev pub line_end : Option Headed → Option Headed
line_end None = None
line_end (Some h) =
    if is_break_or_end (slice_index (past_comment h.place).left 0) then Some (record h { place = past_break (past_comment h.place) }) else None

abbrev pub header_from : Place → Option Headed
header_from p = line_end (signs (skipped p))

-- what is wrong with a header that is refused: the digit 0, or something else than a comment after the signs
abbrev pub header_fault : Place → ScanInfo
header_fault p = if is_some (signs (skipped p)) then i.S27 else i.S26

-- the header was read, and is refused exactly where it is refused here
abbrev pub ReadsHeader : Option Headed → Result Header ScanError → Place → Type 0
ReadsHeader (Some h) (Ok header) p = (header ≡ h.header) × (p ≡ h.place)
ReadsHeader None (Ok header) p = ⊥
ReadsHeader (Some h) (Err e) p = ⊥
ReadsHeader None (Err e) p = Unit {0}
