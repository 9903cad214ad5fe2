use Rattle.snap_explain_values.proofs.Prelude.{◌≡◌, false, take, list_any}
use Rattle.snap_explain_values.proofs.TreeTests.{twice_in, twice_in_pair, twice_in_field}
use Rattle.snap_explain_values.proofs.keys.+twice.Given as goal

-- none so far has such a map
abbrev pub invariant-item_has_twice-loop-item : goal.invariant-item_has_twice-loop-item
invariant-item_has_twice-loop-item l = list_any twice_in (take l.item-index l.items) ≡ false

abbrev pub invariant-pair_has_twice-loop-pair : goal.invariant-pair_has_twice-loop-pair
invariant-pair_has_twice-loop-pair l = list_any twice_in_pair (take l.pair-index l.pairs) ≡ false

abbrev pub invariant-field_has_twice-loop-field : goal.invariant-field_has_twice-loop-field
invariant-field_has_twice-loop-field l = list_any twice_in_field (take l.field-index l.fields) ≡ false
