use Rattle.snap_json.proofs.Prelude.{take, All, IsAdded, all_written, further, value_written, pair_written, field_written, IsKeptWithin, IsPairWithin, IsFieldWithin}
use Rattle.snap_json.proofs.walk.+walk.Given as goal

abbrev pub invariant-write_items-loop-item : goal.invariant-write_items-loop-item
invariant-write_items-loop-item l = record {
  added : IsAdded l.initial.out l.out (all_written (further l.format l.inner (value_written l.format l.inner)) (take l.item-index l.rest));
  within : All IsKeptWithin (take l.item-index l.rest);
}

abbrev pub invariant-write_pairs-loop-key : goal.invariant-write_pairs-loop-key
invariant-write_pairs-loop-key l = record {
  added : IsAdded l.initial.out l.out (all_written (further l.format l.inner (pair_written l.format l.inner)) (take l.key-index l.rest));
  within : All IsPairWithin (take l.key-index l.rest);
}

abbrev pub invariant-write_fields-loop-name : goal.invariant-write_fields-loop-name
invariant-write_fields-loop-name l = record {
  added : IsAdded l.initial.out l.out (all_written (further l.format l.inner (field_written l.format l.inner)) (take l.name-index l.rest));
  within : All IsFieldWithin (take l.name-index l.rest);
}
