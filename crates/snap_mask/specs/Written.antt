-- What is written of one line.
use Rattle.std.specs.Prelude.{◌≡◌, ℕ, Bool, true, false, List, [], ◌∷◌, Option, Some, Result, Ok, Err}
use Rattle.snap_assert_settings.specs.Replaced.{ReplacementView}
use Rattle.snap_mask.specs.Masked.{IsWritten, IsBegun}
use Rattle.snap_mask.specs.Records.{RefusesFor}
use Rattle.snap_mask.specs.declared.record.RecordError.{RecordError}
use Rattle.snap_mask.specs.declared.record.RecordError.TheVariants as error
use Rattle.snap_mask.specs.declared.writing.RecordStop.{RecordStop}
use Rattle.snap_mask.specs.declared.writing.RecordStop.TheVariants.{BadLine, FloatLine, JsonKey, WriteFault, OutOfMemory}

-- the record was written after w, or a part of it, or nothing
abbrev pub RecordEnds : {T : Type 0} → List ReplacementView → List ℕ → List ℕ → Option (List ℕ) → Result T RecordStop → Type 0
RecordEnds rules line w now (Ok done) = IsWritten rules (line ∷ []) w now
RecordEnds rules line w now (Err WriteFault) = IsBegun rules (line ∷ []) w now
RecordEnds rules line w now (Err other) = now ≡ Some w

-- a line that isn't empty is refused
pub record IsRefused (rules : List ReplacementView) (why : RecordError) (line : List ℕ) : Type 0 where
  pub filled : line ≡ [] → ⊥
  pub refused : RefusesFor rules why line

-- why the line has no record, where that is why none was written
abbrev pub RefusesRecord : List ReplacementView → RecordStop → List ℕ → Type 0
RefusesRecord rules BadLine line = IsRefused rules error.BadLine line
RefusesRecord rules FloatLine line = IsRefused rules error.FloatLine line
RefusesRecord rules JsonKey line = IsRefused rules error.JsonKey line
RefusesRecord rules WriteFault line = Unit {0}
RefusesRecord rules OutOfMemory line = Unit {0}

-- a stop that tells that the sink failed
abbrev pub is_write_fault : RecordStop → Bool
is_write_fault WriteFault = true
is_write_fault _ = false

-- the stop for an error
abbrev pub stop_for : RecordError → RecordStop
stop_for error.BadLine = BadLine
stop_for error.FloatLine = FloatLine
stop_for error.JsonKey = JsonKey
stop_for error.OutOfMemory = OutOfMemory
