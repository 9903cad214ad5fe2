-- What is seen of a disk.
use Rattle.snap_io.specs.Calls.{History}
use Rattle.snap_io.specs.declared.disk.Disk.{Disk}

-- R is the runtime, and the others are its own types
abbrev pub asked_of : {R A F D : Type 0} → Disk R A F D → History
asked_of disk = disk.record.calls
