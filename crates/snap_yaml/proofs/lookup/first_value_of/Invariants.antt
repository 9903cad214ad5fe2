use Rattle.snap_yaml.proofs.Prelude.{◌≡◌, drop, hash_list, hash_values, first_value}
use Rattle.snap_yaml.specs.Keys.{is_key}
use Rattle.snap_yaml.proofs.lookup.first_value_of.Given as goal

-- what is sought in the rest is what is sought in the whole
abbrev pub invariant-loop-key : goal.invariant-loop-key
invariant-loop-key l = first_value (is_key l.sought) (hash_values (drop l.key-index l.key-items)) ≡ first_value (is_key l.sought) (hash_values (hash_list l.hash))
