use Rattle.snap_explain_values.proofs.Prelude.{◌≡◌, false, take, map, list_any, step_of, parts_of}
use Rattle.snap_explain_values.proofs.HitParts.{hit_from, hit_key, hit_value, hit_field}
use Rattle.snap_explain_values.proofs.hitting.+hits.Given as goal

-- the path is as it was, and whether one of those that are left is hit tells it of all
abbrev pub invariant-hits_item-loop-place : goal.invariant-hits_item-loop-place
invariant-hits_item-loop-place l = record {
  path : l.path.items ≡ l.fn.path.items;
  left : hit_from (parts_of l.selector) (map step_of l.fn.path.items) l.items l.place ≡ hit_from (parts_of l.selector) (map step_of l.fn.path.items) l.items 0;
}

-- the path is as it was, and none so far is hit
abbrev pub invariant-hits_value-loop-pair : goal.invariant-hits_value-loop-pair
invariant-hits_value-loop-pair l = record {
  path : l.path.items ≡ l.fn.path.items;
  none : list_any (hit_value (parts_of l.selector) (map step_of l.fn.path.items)) (take l.pair-index l.pairs) ≡ false;
}

abbrev pub invariant-hits_key-loop-pair : goal.invariant-hits_key-loop-pair
invariant-hits_key-loop-pair l = record {
  path : l.path.items ≡ l.fn.path.items;
  none : list_any (hit_key (parts_of l.selector) (map step_of l.fn.path.items)) (take l.pair-index l.pairs) ≡ false;
}

abbrev pub invariant-hits_field-loop-field : goal.invariant-hits_field-loop-field
invariant-hits_field-loop-field l = record {
  path : l.path.items ≡ l.fn.path.items;
  none : list_any (hit_field (parts_of l.selector) (map step_of l.fn.path.items)) (take l.field-index l.fields) ≡ false;
}
