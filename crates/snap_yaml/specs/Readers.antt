-- What is read of a value: its content, where it is of the variant that is asked for.
use Rattle.std.specs.Prelude.{ℕ, ℤ, Bool, true, false, List, [], ◌∷◌, Option, None, Some}
use Rattle.snap_yaml.specs.Value.{Value, integer, string, boolean, array, hash, null, bad_value, Values, no_values, value, ValuePairs}

-- the truth value that a value is, if it is one
abbrev pub boolean_in : Value → Option Bool
boolean_in (boolean b) = Some b
boolean_in _ = None

-- the whole number that a value is, if it is one
abbrev pub integer_in : Value → Option ℤ
integer_in (integer z) = Some z
integer_in _ = None

-- the text that a value is, if it is one
abbrev pub string_in : Value → Option (List ℕ)
string_in (string s) = Some s
string_in _ = None

-- the items of a value, if it is an array
abbrev pub array_in : Value → Option Values
array_in (array vs) = Some vs
array_in _ = None

-- the pairs of a value, if it is a hash
abbrev pub hash_in : Value → Option ValuePairs
hash_in (hash ps) = Some ps
hash_in _ = None

-- a value that is null
abbrev pub is_null_value : Value → Bool
is_null_value null = true
is_null_value _ = false

-- a value that is bad
abbrev pub is_bad : Value → Bool
is_bad bad_value = true
is_bad _ = false

-- a value that is an array
abbrev pub is_array_value : Value → Bool
is_array_value (array vs) = true
is_array_value _ = false

-- the values of an array, and nothing of another value
abbrev pub listed : Values → List Value
listed no_values = []
listed (value v vs) = v ∷ listed vs

abbrev pub items_in : Value → List Value
items_in (array vs) = listed vs
items_in _ = []
