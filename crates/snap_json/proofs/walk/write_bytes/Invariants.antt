use Rattle.snap_json.proofs.Prelude.{take, All, IsAdded, all_written, further, byte_written, IsByteWithin}
use Rattle.snap_json.proofs.walk.write_bytes.Given as goal

abbrev pub invariant-loop-byte : goal.invariant-loop-byte
invariant-loop-byte l = record {
  added : IsAdded l.initial.out l.out (all_written (further l.format l.inner (byte_written l.format l.inner)) (take l.byte-index l.rest));
  within : All IsByteWithin (take l.byte-index l.rest);
}
