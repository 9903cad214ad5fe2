-- Plain scalars, character by character.
use Rattle.std.specs.Prelude.{ℕ, ◌==◌, ◌&&◌, ◌||◌, nat_le, List, [], ◌∷◌, ◌++◌, Bool, false, not, if◌then◌else◌, slice_index, Option, Some, None, Result, Ok, Err, ◌≡◌}
use Rattle.snap_scan_tokens.specs.declared.folding.Gap.{Gap}
use Rattle.snap_scan_tokens.specs.declared.info.ScanError.{ScanError}
use Rattle.snap_scan_tokens.specs.declared.info.ScanError.TheVariants.{OutOfMemory}
use Rattle.snap_scan_tokens.specs.declared.plain.PlainScalar.{PlainScalar}
use Rattle.snap_scan_tokens.specs.Characters.{is_blank, is_break, is_pair, is_blank_or_end, is_flow_sign, is_document_indicator}
use Rattle.snap_content.specs.Numbers.{is_nothing}
use Rattle.snap_scan_tokens.specs.Folding.{no_gap, is_folded, with_blank, with_break, joined}
use Rattle.snap_scan_tokens.specs.Place.{Place, skipped}

-- whether a column isn't right of the innermost block
abbrev pub is_outside : Option ℕ → ℕ → Bool
is_outside None col = false
is_outside (Some column) col = nat_le col column

-- whether something stands between the last character of the scalar and the place
abbrev pub is_apart : Gap → Bool
is_apart g = is_folded g.fold || not (is_nothing g.text)

-- whether a plain scalar ends before the characters here, the first of which is no white space
abbrev pub ends_plain : Option ℕ → Bool → Gap → Place → Bool
ends_plain indent flow g p =
    slice_index p.left 0 == 0
    || (slice_index p.left 0 == 58 && (is_blank_or_end (slice_index p.left 1) || (flow && is_flow_sign (slice_index p.left 1))))
    || (flow && is_flow_sign (slice_index p.left 0))
    || (is_apart g && slice_index p.left 0 == 35)
    || (is_folded g.fold && (is_document_indicator p || (not flow && is_outside indent p.col)))

-- a tab where an indentation is expected
abbrev pub is_bad_tab : Option ℕ → Gap → ℕ → ℕ → Bool
is_bad_tab indent g c col = is_folded g.fold && c == 9 && is_outside indent col

pub record Plain : Type 0 where
  pub text : List ℕ
  -- whether a line ended after the text
  pub is_broken : Bool
  pub place : Place

abbrev pub plain_end : Gap → List ℕ → Place → Option Plain
plain_end g text p = Some (record { text = text; is_broken = is_folded g.fold; place = p })

-- a plain scalar of which the text is read, and then a gap, and the characters cs are left
abbrev pub plain : Option ℕ → Bool → Gap → List ℕ → List ℕ → Place → Option Plain
plain indent flow g text [] p = plain_end g text p
plain indent flow g text (c ∷ cs) p =
    if is_blank c then (if is_bad_tab indent g c p.col then None else plain indent flow (with_blank c g) text cs (skipped p)) else (
    if is_break c then plain indent flow (if is_pair c (slice_index cs 0) then g else with_break g) text cs (skipped p) else (
    if ends_plain indent flow g p then plain_end g text p
    else plain indent flow no_gap (text ++ joined g ++ c ∷ []) cs (skipped p)))

-- a plain scalar that begins with the first of these characters, whatever it is; a blank there belongs to the scalar
abbrev pub plain_begun : Option ℕ → Bool → List ℕ → Place → Option Plain
plain_begun indent flow [] p = plain_end no_gap [] p
plain_begun indent flow (c ∷ cs) p =
    if is_blank c then plain indent flow no_gap [] (c ∷ cs) p else plain indent flow no_gap (c ∷ []) cs (skipped p)

-- the plain scalar at a place; none where it is refused
abbrev pub plain_from : Option ℕ → Bool → Place → Option Plain
plain_from indent flow p = plain_begun indent flow p.left p

-- the scalar was read, and is refused exactly where it is refused here, out of memory aside
abbrev pub ReadsPlain : Option Plain → Result PlainScalar ScanError → Place → Type 0
ReadsPlain (Some s) (Ok scalar) p = (scalar.text ≡ s.text) × (scalar.is_broken ≡ s.is_broken) × (p ≡ s.place)
ReadsPlain None (Ok scalar) p = ⊥
ReadsPlain (Some s) (Err e) p = e ≡ OutOfMemory
ReadsPlain None (Err e) p = Unit {0}
