-- What stands in a value after a key or at an index.
use Rattle.std.specs.Prelude.{ℕ, ℤ, pos, negsuc, Bool, false, ◌==◌, List, Option, None, Some, if◌then◌else◌, slice_get}
use Rattle.std.specs.Str.{bytes_eq}
use Rattle.snap_yaml.specs.Value.{Value, integer, string, array, hash, ValuePairs, no_pairs, pair}
use Rattle.snap_yaml.specs.Readers.{listed}

abbrev pub is_text : List ℕ → Value → Bool
is_text name (string s) = bytes_eq s name
is_text name _ = false

-- whether the whole number is the index, however large that is
abbrev pub is_index : ℕ → ℤ → Bool
is_index n (pos m) = m == n
is_index n (negsuc m) = false

abbrev pub is_number : ℕ → Value → Bool
is_number n (integer z) = is_index n z
is_number n _ = false

-- the value of the first pair whose key passes the test
abbrev pub first_value : (Value → Bool) → ValuePairs → Option Value
first_value is_key no_pairs = None
first_value is_key (pair k v ps) = if is_key k then Some v else first_value is_key ps

-- the value under the text, in a hash
abbrev pub value_at_text : List ℕ → Value → Option Value
value_at_text name (hash ps) = first_value (is_text name) ps
value_at_text name _ = None

-- the item at the index of an array, and in a hash the value under that number
abbrev pub value_at_index : ℕ → Value → Option Value
value_at_index n (array vs) = slice_get (listed vs) n
value_at_index n (hash ps) = first_value (is_number n) ps
value_at_index n _ = None
