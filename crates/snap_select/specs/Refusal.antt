-- What a refusal is seen as.
use Rattle.std.specs.Prelude.{⊤, ℕ, List}
use Rattle.snap_select.specs.Faults.{IsFault}
use Rattle.snap_select.specs.declared.fault.SelectError.{SelectError}
use Rattle.snap_select.specs.declared.fault.SelectError.TheVariants.{Parse, OutOfMemory}
use Rattle.snap_select.specs.declared.fault.SelectFault.{SelectFault}
use Rattle.snap_select.specs.declared.fault.SelectorParseError.{SelectorParseError}

-- what a refusal finds wrong
abbrev pub kind_of : SelectorParseError → SelectFault
kind_of refusal = refusal.kind

-- the column of a refusal
abbrev pub column_of : SelectorParseError → ℕ
column_of refusal = refusal.column

-- a refused text has the fault, and out of memory says nothing of it
abbrev pub IsRefused : List ℕ → SelectError → Type 0
IsRefused text (Parse refusal) = IsFault text (kind_of refusal) (column_of refusal)
IsRefused text OutOfMemory = ⊤
