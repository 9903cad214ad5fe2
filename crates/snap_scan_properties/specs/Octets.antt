-- The octets that stand in a tag, and the text whose UTF-8 they are.
use Rattle.std.specs.Prelude.{ℕ, ◌+◌, ◌*◌, ◌==◌, ◌&&◌, ◌||◌, Bool, List, [], ◌∷◌, ◌++◌, Option, Some, None, is_some, Result, Ok, Err, if◌then◌else◌}
use Rattle.std.specs.Str.{chars, is_utf8}
use Rattle.snap_scan_tokens.specs.declared.info.ScanInfo.{ScanInfo}
use Rattle.snap_scan_tokens.specs.declared.info.ScanInfo.TheVariants.{S17, S21}
use Rattle.snap_scan_tokens.specs.Characters.{is_uri}
use Rattle.snap_content.specs.Numbers.{is_nothing}
use Rattle.snap_scan_tokens.specs.Place.{Place, skipped_while}
use Rattle.snap_scan_tokens.specs.Quoted.{hexadecimal, value_of}
use Rattle.snap_scan_properties.specs.Reading.{Found, found, ◌>>=◌}

-- octets, and further ones after them
abbrev pub before_octets : List ℕ → Option (List ℕ) → Option (List ℕ)
before_octets front None = None
before_octets front (Some rest) = Some (front ++ rest)

-- the octet of two hexadecimal digits
abbrev pub spelled : ℕ → ℕ → ℕ
spelled high low = value_of (hexadecimal high) * 16 + value_of (hexadecimal low)

abbrev mutual
  -- the octets up to what may not stand in a tag: `%` and two hexadecimal digits spell one, each other character is its own
  pub octets : List ℕ → Option (List ℕ)
  octets [] = Some []
  octets (c ∷ cs) =
      if c == 37 then escaped cs else (
      if is_uri c then before_octets (c ∷ []) (octets cs) else Some [])

  -- what stands after a `%`
  pub escaped : List ℕ → Option (List ℕ)
  escaped [] = None
  escaped (high ∷ []) = None
  escaped (high ∷ low ∷ cs) =
      if is_some (hexadecimal high) && is_some (hexadecimal low) then before_octets (spelled high low ∷ []) (octets cs) else None

-- the text whose UTF-8 the octets are
abbrev pub text_of : Option (List ℕ) → Result (List ℕ) ScanInfo
text_of None = Err S21
text_of (Some bytes) = if is_utf8 bytes then Ok (chars bytes) else Err S21

abbrev pub is_in_tag : ℕ → Bool
is_in_tag c = c == 37 || is_uri c

abbrev pub placed : Result (List ℕ) ScanInfo → Place → Result (Found (List ℕ)) ScanInfo
placed (Ok text) p = found text p
placed (Err info) p = Err info

-- the text that the characters of a tag spell, which may be empty
abbrev pub uri_from : Place → Result (Found (List ℕ)) ScanInfo
uri_from p = placed (text_of (octets p.left)) (skipped_while is_in_tag p)

-- the same, where something must stand
abbrev pub some_uri_from : Place → Result (Found (List ℕ)) ScanInfo
some_uri_from p = do
  text ← uri_from p
  if is_nothing text.value then Err S17 else Ok text

-- a text, and then one that is read
abbrev pub headed : List ℕ → Result (Found (List ℕ)) ScanInfo → Result (Found (List ℕ)) ScanInfo
headed head (Ok text) = found (head ++ text.value) text.place
headed head (Err info) = Err info
