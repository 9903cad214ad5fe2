-- Directives.
use Rattle.std.specs.Prelude.{ℕ, ◌==◌, not, nat_lt, List, [], length, Result, Ok, Err, if◌then◌else◌, codes}
use Rattle.std.specs.Str.{bytes_eq}
use Rattle.std.specs.Str.Parse.{digits_value}
use Rattle.snap_scan_tokens.specs.declared.info.ScanInfo.{ScanInfo}
use Rattle.snap_scan_tokens.specs.declared.info.ScanInfo.TheVariants.{S6, S7, S8, S9, S10, S11, S12, S15, S16}
use Rattle.snap_scan_tokens.specs.Characters.{is_alpha, is_digit, is_break_or_end, is_blank_or_end, past_break, past_blanks, past_comment}
use Rattle.snap_content.specs.Numbers.{is_nothing}
use Rattle.snap_scan_tokens.specs.Place.{Place, skipped, skipped_while}
use Rattle.snap_scan_properties.specs.declared.directive.Directive.{Directive}
use Rattle.snap_scan_properties.specs.declared.directive.Directive.TheVariants.{Version, Tag}
use Rattle.snap_scan_properties.specs.Octets.{some_uri_from}
use Rattle.snap_scan_properties.specs.Reading.{Found, found, ahead, run_of, ◌>>=◌}
use Rattle.snap_scan_properties.specs.Tag.{handle_of}

-- the number that the digits write, of which there are at least one and at most nine
abbrev pub number_of : Found (List ℕ) → Result (Found ℕ) ScanInfo
number_of digits =
    if is_nothing digits.value then Err S11 else (
    if nat_lt 9 (length digits.value) then Err S10 else found (digits_value 10 digits.value) digits.place)

abbrev pub number_from : Place → Result (Found ℕ) ScanInfo
number_from p = number_of (run_of is_digit p)

-- `1.2`: two numbers with a dot between them
abbrev pub version_from : Place → Result (Found Directive) ScanInfo
version_from p = do
  major ← number_from (past_blanks p)
  minor ← if ahead major.place == 46 then number_from (skipped major.place) else Err S7
  found (Version major.value minor.value) minor.place

-- a handle is `!name!`, or `!` alone
abbrev pub handle_with : Found (List ℕ) → Result (Found (List ℕ)) ScanInfo
handle_with name =
    if ahead name.place == 33 then found (handle_of name.value) (skipped name.place) else (
    if is_nothing name.value then found (codes "!") name.place else Err S16)

abbrev pub handle_from : Place → Result (Found (List ℕ)) ScanInfo
handle_from p = if ahead p == 33 then handle_with (run_of is_alpha (skipped p)) else Err S15

-- a handle and the prefix that it stands for, with white space or the end after them
abbrev pub shorthand_from : Place → Result (Found Directive) ScanInfo
shorthand_from p = do
  handle ← handle_from (past_blanks p)
  prefix ← some_uri_from (past_blanks handle.place)
  if is_blank_or_end (ahead prefix.place) then found (Tag handle.value prefix.value) prefix.place else Err S12

-- an unknown directive says nothing, whatever stands on its line
abbrev pub ignored : Place → Result (Found Directive) ScanInfo
ignored p = found (Tag [] []) (skipped_while (λ c. not (is_break_or_end c)) p)

-- what a directive of this name says
abbrev pub said_by : Found (List ℕ) → Result (Found Directive) ScanInfo
said_by name =
    if bytes_eq name.value (codes "YAML") then version_from name.place else (
    if bytes_eq name.value (codes "TAG") then shorthand_from name.place else ignored name.place)

-- the name of a directive: letters, with white space or the end after them
abbrev pub entitled : Found (List ℕ) → Result (Found (List ℕ)) ScanInfo
entitled name =
    if is_nothing name.value then Err S8 else (
    if is_blank_or_end (ahead name.place) then Ok name else Err S9)

-- a directive fills its line, but for a comment
abbrev pub closed : Found Directive → Result (Found Directive) ScanInfo
closed said = if is_break_or_end (ahead (past_comment said.place)) then found said.value (past_break (past_comment said.place)) else Err S6

-- the directive at a place, or what is wrong with it
abbrev pub directive_from : Place → Result (Found Directive) ScanInfo
directive_from p = do
  name ← entitled (run_of is_alpha (skipped p))
  said ← said_by name
  closed said
