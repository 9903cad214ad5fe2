-- What the parts of the reader of block scalars do.
use Rattle.std.specs.Prelude.{ℕ, ◌==◌, ◌&&◌, ◌||◌, nat_lt, not, List, Bool, true, slice_index, Option, Some, None, Result, Ok, Err, ◌≡◌}
use Rattle.snap_scan_blocks.specs.declared.lines.Lines.{Lines}
use Rattle.snap_scan_blocks.specs.Block.{Read, between, opened, first_sign, lines_from}
use Rattle.snap_scan_blocks.specs.Lines.{with_breaks}
use Rattle.snap_scan_tokens.specs.declared.info.ScanError.{ScanError}
use Rattle.snap_scan_tokens.specs.declared.info.ScanError.TheVariants.{OutOfMemory, Syntax}
use Rattle.snap_scan_tokens.specs.Characters.{is_blank, is_break}
use Rattle.snap_scan_tokens.specs.Place.{Place}

-- what stands between the places are empty lines and spaces of the indentation n, and the line ends are added to the breaks
abbrev pub Passes : ℕ → List ℕ → Place → List ℕ → Place → Type 0
Passes n old p new q =
    ((literal : Bool) (l : Lines) → between n literal (with_breaks new l) q.left q ≡ between n literal (with_breaks old l) p.left p)
    × (opened n q.left q ≡ opened n p.left p)

-- neither the end of a line stands here, nor a blank in the indentation
abbrev pub is_open : ℕ → Place → Bool
is_open n p = not (is_break (slice_index p.left 0) || (is_blank (slice_index p.left 0) && nat_lt p.col n))

-- the lines here are refused, out of memory aside
abbrev pub IsRefusedLine : ℕ → List ℕ → Place → ScanError → Type 0
IsRefusedLine n breaks p OutOfMemory = Unit {0}
IsRefusedLine n breaks p (Syntax mark info) = (literal : Bool) (l : Lines) → between n literal (with_breaks breaks l) p.left p ≡ None

-- a tab stands where the indentation is looked for
abbrev pub IsTabFirst : List ℕ → ScanError → Type 0
IsTabFirst cs OutOfMemory = Unit {0}
IsTabFirst cs (Syntax mark info) = (first_sign cs == 9) ≡ true

-- the lines after a header are refused, out of memory aside
abbrev pub IsRefusedOpening : Option ℕ → Option ℕ → List ℕ → Place → ScanError → Type 0
IsRefusedOpening digit indent breaks p OutOfMemory = Unit {0}
IsRefusedOpening digit indent breaks p (Syntax mark info) =
    (literal : Bool) (l : Lines) → lines_from digit indent literal (with_breaks breaks l) p ≡ None

-- the lines were read, and are refused exactly where they are refused here, out of memory aside
abbrev pub ReadsLines : {T : Type 0} → Option Read → Result T ScanError → Lines → Place → Type 0
ReadsLines (Some r) (Ok _) l p = (l ≡ r.lines) × (p ≡ r.place)
ReadsLines None (Ok _) l p = ⊥
ReadsLines (Some r) (Err e) l p = e ≡ OutOfMemory
ReadsLines None (Err e) l p = Unit {0}
