use Rattle.snap_explain_values.proofs.Prelude.{◌≡◌, false, take, map, Bor, Content, list_any, has_twice}
use Rattle.snap_explain_values.proofs.SeenKeys.{key_tree, same_as, is_one_of}
use Rattle.snap_explain_values.proofs.keys.is_key_twice.Given as goal

-- none of the keys so far stands twice, and they have been seen, and no other
abbrev pub invariant-loop-pair : goal.invariant-loop-pair
invariant-loop-pair l = record {
  once : has_twice (map key_tree (take l.pair-index l.pairs)) ≡ false;
  seen : (q : Bor Content) → is_one_of q l.seen.keys ≡ list_any (same_as q) (take l.pair-index l.pairs);
}
