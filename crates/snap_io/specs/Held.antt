-- What the objects in memory hold.
use Rattle.std.specs.Prelude.{ℕ, List, length, min, max}
use Rattle.snap_io.specs.Files.{Files}
use Rattle.snap_io.specs.declared.schedule.Schedule.{Schedule}
use Rattle.snap_io.specs.declared.memory.MemoryStore.{MemoryStore}
use Rattle.snap_io.specs.declared.memory.MemorySource.{MemorySource}
use Rattle.snap_io.specs.declared.memory.MemorySink.{MemorySink}
use Rattle.snap_io.specs.declared.steady.SteadyStore.{SteadyStore}
use Rattle.snap_io.specs.declared.steady.SteadySource.{SteadySource}
use Rattle.snap_io.specs.declared.steady.SteadySink.{SteadySink}

-- the files of a store in memory
abbrev pub files_in : MemoryStore → Files
files_in store = store.files

-- the calls of the store
abbrev pub store_calls : MemoryStore → Schedule
store_calls store = store.schedule

-- the bytes that reads will give
abbrev pub left_in : MemorySource → List ℕ
left_in source = source.pieces

-- how many bytes a read gives at most
abbrev pub piece_of : MemorySource → ℕ
piece_of source = source.piece

-- at which calls a source in memory fails
abbrev pub source_calls : MemorySource → Schedule
source_calls source = source.schedule

-- what was written to a sink in memory
abbrev pub written_in : MemorySink → List ℕ
written_in sink = sink.bytes.items

-- at which calls a sink in memory fails
abbrev pub sink_calls : MemorySink → Schedule
sink_calls sink = sink.schedule

-- the files of a store that never fails
abbrev pub steady_files : SteadyStore → Files
steady_files store = store.files

-- what is left in a source that never fails
abbrev pub steady_left : SteadySource → List ℕ
steady_left source = source.pieces

-- how many bytes a read of such a source gives at most
abbrev pub steady_piece : SteadySource → ℕ
steady_piece source = source.piece

-- what was written to a sink that never fails
abbrev pub steady_written : SteadySink → List ℕ
steady_written sink = sink.bytes.items

-- how often a sink that never fails failed: the count stands still
abbrev pub steady_faults : SteadySink → ℕ
steady_faults sink = sink.faults

-- a piece, or as much as there is room for and is left; a piece of 0 counts as 1
abbrev pub count_given : ℕ → List ℕ → List ℕ → ℕ
count_given piece buffer left = min (max 1 piece) (min (length buffer) (length left))
