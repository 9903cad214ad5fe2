-- What is said of a line, as bytes.
use Rattle.std.specs.Prelude.{ℕ, ◌+◌, List, ◌++◌, codes, decimal, encode_utf8_all}
use Rattle.snap_scan_tokens.specs.Info.{info_text}
use Rattle.snap_scan_tokens.specs.declared.info.ScanError.{ScanError}
use Rattle.snap_scan_tokens.specs.declared.info.ScanError.TheVariants as scan
use Rattle.snap_emit.specs.declared.refusal.Refusal.{Refusal}
use Rattle.snap_emit.specs.declared.refusal.Refusal.TheVariants as refusal
use Rattle.snap_explain.specs.declared.fault.Start.{Start}
use Rattle.snap_explain.specs.declared.fault.Start.TheVariants as start
use Rattle.snap_explain.specs.declared.fault.NumberKind.{NumberKind}
use Rattle.snap_explain.specs.declared.fault.NumberKind.TheVariants as number
use Rattle.snap_explain.specs.declared.fault.LineFault.{LineFault}
use Rattle.snap_explain.specs.declared.fault.LineFault.TheVariants as fault

-- what a line begins with
abbrev pub start_text : Start → List ℕ
start_text start.Nothing = codes "nothing but blanks"
start_text start.Tab = codes "a tab"
start_text start.Mark = codes "a byte order mark"
start_text start.Other = codes "no JSON text begins so"

-- what a number is that is no whole number of 128 bits
abbrev pub kind_text : NumberKind → List ℕ
kind_text number.Fraction = codes "a number with a fraction"
kind_text number.Exponent = codes "a number with an exponent"
kind_text number.Wide = codes "a number of more than 128 bits"

-- what follows a line's number: a column is counted from 1, in characters
abbrev pub fault_text : LineFault → List ℕ
fault_text fault.TooLong = codes ": more than 1,048,576 bytes; no line after it was read"
fault_text (fault.NotUtf8 place) = codes ", byte " ++ decimal (place + 1) ++ codes ": not UTF-8"
fault_text (fault.Nul before) = codes ", column " ++ decimal (before + 1) ++ codes ": NUL"
fault_text (fault.Start before what) = codes ", column " ++ decimal (before + 1) ++ codes ": " ++ start_text what
fault_text (fault.Syntax before info) = codes ", column " ++ decimal (before + 1) ++ codes ": " ++ info_text info
fault_text fault.NotOne = codes ": not one value"
fault_text fault.Alias = codes ": an alias"
fault_text fault.NoValue = codes ": something in it is no value"
fault_text fault.SomeNumber = codes ": a number that is no whole number of 128 bits"
fault_text fault.Misfit = codes ": read as another kind of value than it begins as"
fault_text (fault.Number place) = codes ": " ++ kind_text place.kind ++ codes " at " ++ encode_utf8_all place.path
fault_text fault.Key = codes ": a key that JSON has no text for"

-- what is said of the line with this number: a line of its own
abbrev pub finding_text : ℕ → LineFault → List ℕ
finding_text number fault = codes "line " ++ decimal number ++ fault_text fault ++ codes "\n"

-- the fault of a line that is no YAML
abbrev pub scan_fault : ScanError → LineFault
scan_fault (scan.Syntax mark info) = fault.Syntax mark.index info
scan_fault scan.OutOfMemory = fault.NoValue

-- the fault of a line that is read as no tree
abbrev pub fault_of : Refusal → LineFault
fault_of (refusal.NoYaml error) = scan_fault error
fault_of refusal.NotOneDocument = fault.NotOne
fault_of refusal.Alias = fault.Alias
fault_of refusal.NoTree = fault.NoValue
fault_of refusal.Number = fault.SomeNumber
