-- Why a text is refused, by its characters.
use Rattle.std.specs.Prelude.{ℕ, ◌+◌, ◌≤◌, ◌≡◌, ◌==◌, ◌&&◌, Bool, true, nat_le, List, [], length, codes, count_by}
use Rattle.std.specs.List.{list_any}
use Rattle.snap_scan_tokens.specs.Place.{Place}
use Rattle.snap_scan_tokens.specs.Mark.{Mark}
use Rattle.snap_scan_tokens.specs.declared.info.ScanInfo.{ScanInfo}
use Rattle.snap_scan_tokens.specs.declared.info.ScanInfo.TheVariants as i
use Rattle.snap_scan_tokens.specs.declared.info.ScanError.{ScanError}
use Rattle.snap_scan_tokens.specs.declared.info.ScanError.TheVariants.{Syntax, OutOfMemory}

-- so many of these signs
pub record Need : Type 0 where
  pub count : ℕ
  pub signs : List ℕ

abbrev pub one_of : List ℕ → Need
one_of signs = record { count = 1; signs = signs }

abbrev pub nothing : Need
nothing = record { count = 0; signs = [] }

-- what must stand in a text that is refused so
abbrev pub needed : ScanInfo → Need
needed i.S1 = one_of (codes "-?:")
needed i.S2 = one_of (codes "-?:")
needed i.S3 = one_of (codes "%")
needed i.S4 = one_of (codes "@")
needed i.S5 = one_of (codes "`")
needed i.S6 = one_of (codes "%")
needed i.S7 = one_of (codes "%")
needed i.S8 = one_of (codes "%")
needed i.S9 = one_of (codes "%")
needed i.S10 = one_of (codes "%")
needed i.S11 = one_of (codes "%")
needed i.S12 = one_of (codes "%")
needed i.S13 = one_of (codes "!")
needed i.S14 = one_of (codes "!")
needed i.S15 = one_of (codes "!%")
needed i.S16 = one_of (codes "%")
needed i.S17 = one_of (codes "!%")
needed i.S18 = one_of (codes "!%")
needed i.S19 = one_of (codes "!%")
needed i.S20 = one_of (codes "!%")
needed i.S21 = one_of (codes "!%")
needed i.S22 = one_of (codes "*&")
needed i.S23 = record { count = 1024; signs = codes "[{" }
needed i.S24 = one_of (codes "-")
needed i.S25 = one_of (codes "-")
needed i.S26 = one_of (codes "|>")
needed i.S27 = one_of (codes "|>")
needed i.S28 = one_of (codes "|>")
needed i.S29 = one_of (codes "'\"")
needed i.S30 = one_of (codes "'\"")
needed i.S31 = one_of (codes "\"")
needed i.S32 = one_of (codes "\"")
needed i.S33 = one_of (codes "\"")
needed i.S34 = one_of (codes "\t")
needed i.S35 = one_of (codes "?")
needed i.S36 = one_of (codes ":")
needed i.P1 = one_of []
needed i.P2 = nothing
needed i.P3 = one_of (codes "*")
needed i.P4 = nothing
needed i.P5 = one_of (codes "?:")
needed i.P6 = one_of (codes "[{")
needed i.P7 = one_of (codes "[{")
needed i.P8 = one_of (codes "-")
needed i.P9 = nothing

-- one of these signs
abbrev pub is_among : List ℕ → ℕ → Bool
is_among signs c = list_any (λ sign. c == sign) signs

-- what the refusal needs stands in the text
abbrev pub HasCause : List ℕ → ScanInfo → Type 0
HasCause text info = (needed info).count ≤ count_by (is_among (needed info).signs) text

-- one such character is all that the refusal needs
abbrev pub explains : ℕ → ScanInfo → Bool
explains c info = nat_le (needed info).count 1 && is_among (needed info).signs c

-- an error of a call that began at a place: out of memory, or a refusal that what was left there explains,
-- and that names a place there or after it
abbrev pub IsExplained : Place → ScanError → Type 0
IsExplained p OutOfMemory = Unit {0}
IsExplained p (Syntax mark info) = HasCause p.left info × (p.index ≤ mark.index) × (mark.index ≤ p.index + length p.left)

-- an error of a part of such a call: out of memory, or a refusal that names the mark, and that each of the signs explains
abbrev pub IsRefusedBy : List ℕ → Mark → ScanError → Type 0
IsRefusedBy signs at OutOfMemory = Unit {0}
IsRefusedBy signs at (Syntax mark info) = (mark ≡ at) × ((c : ℕ) → is_among signs c ≡ true → explains c info ≡ true)

-- the error is this refusal, or out of memory
abbrev pub IsFault : ScanInfo → ScanError → Type 0
IsFault info OutOfMemory = Unit {0}
IsFault info (Syntax mark found) = found ≡ info
