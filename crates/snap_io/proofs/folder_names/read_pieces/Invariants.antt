use Rattle.snap_io.proofs.Prelude.{◌≡◌, ◌≤◌, length, asked_of, Told}
use Rattle.snap_io.proofs.folder_names.read_pieces.Given as goal

-- each turn makes a call
abbrev pub invariant-loop : goal.invariant-loop
invariant-loop g l = record {
  told : Told (asked_of l.fn.disk) l.names (asked_of l.disk);
  within : length l.names ≤ l.most;
  turns : l.counter ≤ length (asked_of l.disk);
  room : length l.buffer ≡ length l.initial.buffer;
}
