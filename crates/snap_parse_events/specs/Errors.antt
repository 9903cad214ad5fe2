-- Errors of loading.
use Rattle.std.specs.Prelude.{List, ℕ, codes}
use Rattle.snap_scan_tokens.specs.declared.info.ScanError.{ScanError}
use Rattle.snap_scan_tokens.specs.declared.info.ScanError.TheVariants as c
use Rattle.snap_scan_tokens.specs.Info.{error_text}
use Rattle.snap_scan.specs.Sound.{IsFounded}
use Rattle.snap_parse_events.specs.declared.error.LoadError.{LoadError}
use Rattle.snap_parse_events.specs.declared.error.LoadError.TheVariants as l

-- out of memory is one answer, wherever it comes from
abbrev pub load_error : ScanError → LoadError
load_error (c.Syntax mark info) = l.Scan (c.Syntax mark info)
load_error c.OutOfMemory = l.OutOfMemory

-- a refusal is one that the source explains, and never out of memory
abbrev pub IsLoadFounded : List ℕ → LoadError → Type 0
IsLoadFounded source (l.Scan (c.Syntax mark info)) = IsFounded source (c.Syntax mark info)
IsLoadFounded source (l.Scan c.OutOfMemory) = ⊥
IsLoadFounded source l.InsideDocument = Unit {0}
IsLoadFounded source l.OutOfMemory = Unit {0}

-- what an error is printed as
abbrev pub load_error_text : LoadError → List ℕ
load_error_text (l.Scan e) = error_text e
load_error_text l.InsideDocument = codes "InsideDocument"
load_error_text l.OutOfMemory = codes "OutOfMemory"
