use Rattle.std.proofs.Common.{◌≡◌, ◌≤◌, ◌-◌, length}
use Rattle.snap_io_streams.proofs.Pieces.{IsRead}
use Rattle.snap_io_streams.proofs.streams.read_all.Given as goal

abbrev pub invariant-loop-buffer : goal.invariant-loop-buffer
invariant-loop-buffer g l = record {
  read : IsRead l.bytes.items (g.S.Source.left l.fn.source) (g.S.Source.left l.source);
  count : g.S.Source.faults l.source ≡ g.S.Source.faults l.fn.source;
  room : length l.buffer ≡ 4096;
  within : length l.bytes.items ≤ 67108865;
}

-- what is left below the limit: each read takes a byte at least
abbrev pub decreases-loop-buffer : goal.decreases-loop-buffer
decreases-loop-buffer g l = 67108865 - length l.bytes.items
