-- A value of a document as plain data: what a `Yaml` means, without memory.
use Rattle.std.specs.Prelude.{ℕ, ℤ, Bool, List, [], ◌∷◌}

-- a value: a number that is kept as its text, a whole number of 64 bits, a text, a truth value, an array, a hash, null, or a bad value
mutual
  pub data Value : Type 0 where
    real : List ℕ → Value
    integer : ℤ → Value
    string : List ℕ → Value
    boolean : Bool → Value
    array : Values → Value
    hash : ValuePairs → Value
    null : Value
    bad_value : Value

  pub data Values : Type 0 where
    no_values : Values
    value : Value → Values → Values

  pub data ValuePairs : Type 0 where
    no_pairs : ValuePairs
    pair : Value → Value → ValuePairs → ValuePairs

-- the same from lists
abbrev pub values_of : List Value → Values
values_of [] = no_values
values_of (v ∷ vs) = value v (values_of vs)

abbrev pub pairs_of : List (Value × Value) → ValuePairs
pairs_of [] = no_pairs
pairs_of (p ∷ ps) = pair p.0 p.1 (pairs_of ps)
