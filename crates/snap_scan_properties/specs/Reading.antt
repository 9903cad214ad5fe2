-- What stands at a place: a value with the place after it, or what is wrong.
use Rattle.std.specs.Prelude.{ℕ, ◌≡◌, List, Bool, Result, Ok, Err, take_while, slice_index}
use Rattle.snap_scan_tokens.specs.declared.info.ScanError.{ScanError}
use Rattle.snap_scan_tokens.specs.declared.info.ScanError.TheVariants.{OutOfMemory, Syntax}
use Rattle.snap_scan_tokens.specs.declared.info.ScanInfo.{ScanInfo}
use Rattle.snap_scan_tokens.specs.declared.info.ScanInfo.TheVariants.{S18, S19, S20, S21}
use Rattle.snap_scan_tokens.specs.Place.{Place, skipped_while}

pub record Found (T : Type 0) : Type 0 where
  pub value : T
  pub place : Place

abbrev pub found : {T : Type 0} → T → Place → Result (Found T) ScanInfo
found value p = Ok (record { value = value; place = p })

-- the character here, and NUL at the end
abbrev pub ahead : Place → ℕ
ahead p = slice_index p.left 0

-- the characters of a kind that stand here
abbrev pub run_of : (ℕ → Bool) → Place → Found (List ℕ)
run_of is_one p = record { value = take_while is_one p.left; place = skipped_while is_one p }

-- one part, and then what stands after it
infixl 10 ◌>>=◌
abbrev pub ◌>>=◌ : {A B : Type 0} → Result (Found A) ScanInfo → (Found A → Result (Found B) ScanInfo) → Result (Found B) ScanInfo
Ok part >>= rest = rest part
Err info >>= rest = Err info

-- the four faults of octets count as one
abbrev pub fault_of : ScanInfo → ScanInfo
fault_of S18 = S21
fault_of S19 = S21
fault_of S20 = S21
fault_of info = info

-- what is wrong there was named, out of memory aside
abbrev pub Refuses : {T : Type 0} → Result (Found T) ScanInfo → ScanError → Type 0
Refuses there OutOfMemory = Unit {0}
Refuses there (Syntax mark info) = there ≡ Err (fault_of info)

-- what stands there was read, or what is wrong there was named, out of memory aside
abbrev pub Reads : {T : Type 0} → Result (Found T) ScanInfo → Result T ScanError → Place → Type 0
Reads there (Ok value) p = there ≡ found value p
Reads there (Err error) p = Refuses there error
