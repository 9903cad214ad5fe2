-- What is seen of the objects over the system.
use Rattle.std.specs.Prelude.{ℕ}
use Rattle.snap_io.specs.Calls.{History}
use Rattle.snap_io.specs.declared.folder.FolderStore.{FolderStore}
use Rattle.snap_io.specs.declared.stream.StreamSource.{StreamSource}
use Rattle.snap_io.specs.declared.stream.StreamSink.{StreamSink}

-- how often a store over files failed; R is the runtime, and the others are its own types
abbrev pub store_faults : {R A F D : Type 0} → FolderStore R A F D → ℕ
store_faults store = store.faults

-- what the store asked of the file system
abbrev pub store_asked : {R A F D : Type 0} → FolderStore R A F D → History
store_asked store = store.disk.record.calls

-- how often a source over a reader failed
abbrev pub source_faults : {R : Type 0} → StreamSource R → ℕ
source_faults source = source.faults

-- how often a sink over a writer failed
abbrev pub sink_faults : {W : Type 0} → StreamSink W → ℕ
sink_faults sink = sink.faults

-- the reader that a source reads from
abbrev pub reader_of : {R : Type 0} → StreamSource R → R
reader_of source = source.reader

-- the writer that a sink writes to
abbrev pub writer_of : {W : Type 0} → StreamSink W → W
writer_of sink = sink.writer

-- what the sink asked of its writer
abbrev pub sink_asked : {W : Type 0} → StreamSink W → History
sink_asked sink = sink.record.calls
