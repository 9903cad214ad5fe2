-- A line without its return, and what stops a run.
use Rattle.std.specs.Prelude.{ℕ, List}
use Rattle.snap_str.specs.Lines.{without_return}
use Rattle.snap_io_lines.specs.declared.lines.LineEnd.{LineEnd}
use Rattle.snap_io_lines.specs.declared.lines.LineEnd.TheVariants.{Ended, Last}
use Rattle.snap_io_lines.specs.declared.lines.LineError.{LineError}
use Rattle.snap_io_lines.specs.declared.lines.LineError.TheVariants.{Fault, LineTooLong, InputTooLong, OutOfMemory}
use Rattle.snap_mask.specs.declared.writing.RecordStop.{RecordStop}
use Rattle.snap_mask.specs.declared.writing.RecordStop.TheVariants as stop
use Rattle.snap_mask.specs.declared.status.MaskStatus.{MaskStatus}
use Rattle.snap_mask.specs.declared.status.MaskStatus.TheVariants as status

-- what is read of a line: without the carriage return before its end, and the last one, which has no end, whole
abbrev pub line_read : LineEnd → List ℕ → List ℕ
line_read Ended line = without_return line
line_read Last line = line

-- the status of a run that an error of its reader stops at the line of that number
abbrev pub status_of : LineError → ℕ → MaskStatus
status_of Fault line = status.ReadFault
status_of LineTooLong line = status.LineTooLong line
status_of InputTooLong line = status.InputTooLong
status_of OutOfMemory line = status.OutOfMemory

-- the status of a run that stops since the line of that number has no record, or its record can't be written
abbrev pub refusal_of : RecordStop → ℕ → MaskStatus
refusal_of stop.BadLine line = status.BadLine line
refusal_of stop.FloatLine line = status.FloatLine line
refusal_of stop.JsonKey line = status.JsonKey line
refusal_of stop.WriteFault line = status.WriteFault
refusal_of stop.OutOfMemory line = status.OutOfMemory
