-- Tags.
use Rattle.std.specs.Prelude.{ℕ, ◌==◌, List, [], ◌++◌, Result, Ok, Err, slice_index, if◌then◌else◌, codes}
use Rattle.snap_scan_tokens.specs.declared.info.ScanInfo.{ScanInfo}
use Rattle.snap_scan_tokens.specs.declared.info.ScanInfo.TheVariants.{S13, S14}
use Rattle.snap_scan_tokens.specs.Characters.{is_alpha, is_blank_or_end}
use Rattle.snap_content.specs.Numbers.{is_nothing}
use Rattle.snap_scan_tokens.specs.Place.{Place, skipped}
use Rattle.snap_scan_tokens.specs.declared.tag.TagTexts.{TagTexts}
use Rattle.snap_scan_properties.specs.Octets.{uri_from, some_uri_from}
use Rattle.snap_scan_properties.specs.Reading.{Found, found, ahead, run_of, ◌>>=◌}

abbrev pub tag : List ℕ → List ℕ → TagTexts
tag handle suffix = record { handle = handle; suffix = suffix }

-- `!<suffix>` has no handle
abbrev pub verbatim : Place → Result (Found TagTexts) ScanInfo
verbatim p = do
  suffix ← some_uri_from (skipped (skipped p))
  if ahead suffix.place == 62 then found (tag [] suffix.value) (skipped suffix.place) else Err S13

-- a handle is `!`, the name, and `!`
abbrev pub handle_of : List ℕ → List ℕ
handle_of name = codes "!" ++ name ++ codes "!"

-- `!name!suffix`, of which the name is read
abbrev pub with_handle : Found (List ℕ) → Result (Found TagTexts) ScanInfo
with_handle name = do
  suffix ← some_uri_from (skipped name.place)
  found (tag (handle_of name.value) suffix.value) suffix.place

-- `!suffix` has the handle `!`; of `!` alone that is the suffix
abbrev pub local_tag : List ℕ → TagTexts
local_tag suffix = if is_nothing suffix then tag [] (codes "!") else tag (codes "!") suffix

abbrev pub local : Place → Result (Found TagTexts) ScanInfo
local p = do
  suffix ← uri_from p
  found (local_tag suffix.value) suffix.place

-- after a `!`: a name and a `!` make a handle
abbrev pub shorthand : Place → Result (Found TagTexts) ScanInfo
shorthand p = if ahead (run_of is_alpha p).place == 33 then with_handle (run_of is_alpha p) else local p

abbrev pub any_tag : Place → Result (Found TagTexts) ScanInfo
any_tag p = if slice_index p.left 1 == 60 then verbatim p else shorthand (skipped p)

-- a tag, with white space or the end after it
abbrev pub tag_from : Place → Result (Found TagTexts) ScanInfo
tag_from p = do
  tag ← any_tag p
  if is_blank_or_end (ahead tag.place) then Ok tag else Err S14
