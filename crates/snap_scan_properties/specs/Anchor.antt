-- The names of anchors and aliases.
use Rattle.std.specs.Prelude.{ℕ, ◌||◌, Bool, not, List, Result, Ok, Err, if◌then◌else◌, codes}
use Rattle.snap_scan_tokens.specs.declared.info.ScanInfo.{ScanInfo}
use Rattle.snap_scan_tokens.specs.declared.info.ScanInfo.TheVariants.{S22}
use Rattle.snap_scan_tokens.specs.Causes.{is_among}
use Rattle.snap_scan_tokens.specs.Characters.{is_alpha, is_blank_or_end}
use Rattle.snap_content.specs.Numbers.{is_nothing}
use Rattle.snap_scan_tokens.specs.Place.{Place, skipped}
use Rattle.snap_scan_properties.specs.Reading.{Found, ahead, run_of}

-- what may stand after a name
abbrev pub ends_name : ℕ → Bool
ends_name c = is_blank_or_end c || is_among (codes "?:,]}%@`") c

-- a name has a character at least, and what may stand after a name follows it
abbrev pub named : Found (List ℕ) → Result (Found (List ℕ)) ScanInfo
named name = if is_nothing name.value || not (ends_name (ahead name.place)) then Err S22 else Ok name

-- the name after `*` or `&`
abbrev pub anchor_from : Place → Result (Found (List ℕ)) ScanInfo
anchor_from p = named (run_of is_alpha (skipped p))
