-- How the lines of an input end.
use Rattle.std.specs.Prelude.{◌≡◌, ◌++◌, ℕ, suc, Bool, true, false, List, length, Option, Some}
use Rattle.snap_str.specs.Lines.{lines}
use Rattle.snap_io_lines.specs.declared.lines.LineError.{LineError}
use Rattle.snap_io_lines.specs.declared.lines.LineError.TheVariants as error
use Rattle.snap_assert_settings.specs.Replaced.{ReplacementView}
use Rattle.snap_mask.specs.Masked.{Gave, LengthIs}
use Rattle.snap_explain.specs.Findings.{Says, IsLongAfter, SaidAll, SaidWithin}
use Rattle.snap_explain.specs.declared.saying.SayError.{SayError}
use Rattle.snap_explain.specs.declared.saying.SayError.TheVariants as say
use Rattle.snap_explain.specs.declared.lines.Run.{Run}
use Rattle.snap_explain.specs.declared.lines.Run.TheVariants as run

abbrev pub run_at : LineError → ℕ → Run
run_at error.Fault line = run.ReadFault
run_at error.LineTooLong line = run.TooLong line
run_at error.InputTooLong line = run.InputTooLong
run_at error.OutOfMemory line = run.OutOfMemory

abbrev pub run_of : SayError → Run
run_of say.WriteFault = run.WriteFault
run_of say.OutOfMemory = run.OutOfMemory

-- what is said of the lines before that of this number, which is too long, was written
pub record SaidBefore (rules : List ReplacementView) (number : ℕ) (input w : List ℕ) (now : Option (List ℕ)) : Type 0 where
  pub past : List ℕ
  pub out : List ℕ
  pub long : IsLongAfter past input
  pub number_is : number ≡ suc (length (lines past))
  pub says : Says rules (lines past) out
  pub told : now ≡ Some (w ++ out)

-- what the lines of the input leave after w
abbrev pub RunLeaves : List ReplacementView → Run → List ℕ → List ℕ → Option (List ℕ) → Type 0
RunLeaves rules (run.Done found) input w now = SaidAll rules input w now found
RunLeaves rules (run.TooLong number) input w now = SaidBefore rules number input w now
RunLeaves rules run.ReadFault input w now = SaidWithin rules input w now
RunLeaves rules run.WriteFault input w now = SaidWithin rules input w now
RunLeaves rules run.OutOfMemory input w now = SaidWithin rules input w now
RunLeaves rules run.InputTooLong input w now = SaidWithin rules input w now

-- the same of a source and a sink, where both tell what they hold
abbrev pub RunLeavesOf : List ReplacementView → Run → Option (List ℕ) → Option (List ℕ) → Option (List ℕ) → Type 0
RunLeavesOf rules ended left before now = (input w : List ℕ) → left ≡ Some input → before ≡ Some w → RunLeaves rules ended input w now

abbrev pub is_long_run : Run → Bool
is_long_run run.InputTooLong = true
is_long_run _ = false

-- the input is too long exactly where the source gave more than the limit, and then it gave one byte more
abbrev pub RunLength : Run → Option (List ℕ) → Option (List ℕ) → Type 0
RunLength ended left left' = (input : List ℕ) → left ≡ Some input → (count : ℕ) × Gave count input left' × LengthIs (is_long_run ended) count

abbrev pub run_read_fault : Run → Bool
run_read_fault run.ReadFault = true
run_read_fault _ = false

abbrev pub run_write_fault : Run → Bool
run_write_fault run.WriteFault = true
run_write_fault _ = false
