use Rattle.snap_io.proofs.Prelude.{◌≡◌, ◌-◌, length, asked_of, Gave}
use Rattle.snap_io.proofs.reading.read_pieces.Given as goal

abbrev pub invariant-loop-disk : goal.invariant-loop-disk
invariant-loop-disk g l = record {
  gave : Gave (asked_of l.fn.disk) l.bytes.items (asked_of l.disk);
  room : length l.buffer ≡ length l.initial.buffer;
}

-- what is left below the limit: each read takes a byte at least
abbrev pub decreases-loop-disk : goal.decreases-loop-disk
decreases-loop-disk g l = 67108865 - length l.bytes.items
