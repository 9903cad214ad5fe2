-- The order of values: by the places of their variants, then by their fields.
use Rattle.std.specs.Prelude.{ℕ}
use Rattle.std.specs.declared.cmp.Ordering.{Ordering}
use Rattle.std.specs.declared.cmp.Ordering.TheVariants.{Less, Equal, Greater}
use Rattle.std.specs.Ordering.{ordering_then, nat_cmp, int_cmp, bool_cmp}
use Rattle.snap_content.specs.Orders.{text_cmp}
use Rattle.snap_yaml.specs.Value.{Value, real, integer, string, boolean, array, hash, null, bad_value, Values, no_values, value, ValuePairs, no_pairs, pair}

-- where a value's variant stands among the eight
abbrev pub place : Value → ℕ
place (real _) = 0
place (integer _) = 1
place (string _) = 2
place (boolean _) = 3
place (array _) = 4
place (hash _) = 5
place null = 6
place bad_value = 7

-- the order of values: by the places of their variants, then by what they hold; lists element by element, a beginning before what goes on
abbrev mutual
  pub value_cmp : Value → Value → Ordering
  value_cmp (real s) (real s') = text_cmp s s'
  value_cmp (integer z) (integer z') = int_cmp z z'
  value_cmp (string s) (string s') = text_cmp s s'
  value_cmp (boolean b) (boolean b') = bool_cmp b b'
  value_cmp (array vs) (array vs') = values_cmp vs vs'
  value_cmp (hash ps) (hash ps') = pairs_cmp ps ps'
  value_cmp null null = Equal
  value_cmp bad_value bad_value = Equal
  value_cmp x y = nat_cmp (place x) (place y)

  pub values_cmp : Values → Values → Ordering
  values_cmp no_values no_values = Equal
  values_cmp no_values (value y ys) = Less
  values_cmp (value x xs) no_values = Greater
  values_cmp (value x xs) (value y ys) = ordering_then (value_cmp x y) (values_cmp xs ys)

  pub pairs_cmp : ValuePairs → ValuePairs → Ordering
  pairs_cmp no_pairs no_pairs = Equal
  pairs_cmp no_pairs (pair l w qs) = Less
  pairs_cmp (pair k v ps) no_pairs = Greater
  pairs_cmp (pair k v ps) (pair l w qs) = ordering_then (ordering_then (value_cmp k l) (value_cmp v w)) (pairs_cmp ps qs)
