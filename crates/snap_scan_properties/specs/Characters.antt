-- The octets of one character, as its reader sees them.
use Rattle.std.specs.Prelude.{ℕ, ◌≡◌, ◌≢◌, ◌≤◌, ◌<◌, ◌==◌, ◌&&◌, ◌||◌, nat_le, nat_lt, Bool, true, List, [], ◌∷◌, ◌++◌, Some, None, All, length, codes, if◌then◌else◌}
use Rattle.std.specs.Char.{IsScalar, encode_utf8}
use Rattle.std.specs.Str.{chars_after}
use Rattle.snap_scan_tokens.specs.declared.info.ScanInfo.{ScanInfo}
use Rattle.snap_scan_tokens.specs.declared.info.ScanInfo.TheVariants.{S21}
use Rattle.snap_scan_tokens.specs.Causes.{is_among, explains}
use Rattle.snap_scan_tokens.specs.Place.{Place, skipped_while}
use Rattle.snap_scan_properties.specs.Octets.{octets, before_octets, is_in_tag}
use Rattle.snap_scan_properties.specs.Reading.{ahead, fault_of}

-- these octets stand in a tag between two places
pub record Spells (p : Place) (front : List ℕ) (q : Place) : Type 0 where
  pub octets : octets p.left ≡ before_octets front (octets q.left)
  pub place : skipped_while is_in_tag p ≡ skipped_while is_in_tag q

-- no octet is spelled here that isn't its own
pub record SpellsNone (p : Place) : Type 0 where
  pub escaped : ahead p ≡ 37 → octets p.left ≡ None
  pub high : (octet : ℕ) (rest : List ℕ) → 128 ≤ octet → octets p.left ≢ Some (octet ∷ rest)

-- a further octet of a character
abbrev pub IsFurther : ℕ → Type 0
IsFurther octet = (128 ≤ octet) × (octet < 192)

-- the first octet of a character
abbrev pub is_first : ℕ → Bool
is_first octet = nat_lt octet 128 || (nat_le 192 octet && nat_lt octet 248)

-- so many further octets stand between two places, and with the bits before them they make a code
pub record Continues (p : Place) (count bits code : ℕ) (q : Place) : Type 0 where
  pub further : List ℕ
  pub spells : Spells p further q
  pub many : length further ≡ count
  pub all : All IsFurther further
  pub made : chars_after count bits further ≡ code ∷ []

-- so many further octets don't stand here
abbrev pub BreaksOff : Place → ℕ → Type 0
BreaksOff p count = (further rest : List ℕ) → length further ≡ count → All IsFurther further → octets p.left ≢ Some (further ++ rest)

-- no character's octets stand here
abbrev pub SpellsNoCharacter : Place → Type 0
SpellsNoCharacter p = (c : ℕ) (rest : List ℕ) → IsScalar c → octets p.left ≢ Some (encode_utf8 c ++ rest)

-- the least code that needs so many further octets
abbrev pub least_code : ℕ → ℕ
least_code count = if count == 0 then 0 else (if count == 1 then 128 else (if count == 2 then 2048 else 65536))

-- one of the four faults of octets, which a tag or a directive explains
abbrev pub IsBadOctet : ScanInfo → Type 0
IsBadOctet info = (fault_of info ≡ S21) × ((c : ℕ) → is_among (codes "!%") c ≡ true → explains c info ≡ true)
