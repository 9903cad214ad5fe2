-- What a reader of trees takes a typed scalar for.
use Rattle.std.specs.Prelude.{ℕ, List, ◌&&◌, if◌then◌else◌}
use Rattle.snap_content.specs.Numbers.{is_integer_text}
use Rattle.snap_content.specs.Plain as p
use Rattle.snap_print.specs.Typed.{Typed, value, number_in, has_128_bits}
use Rattle.snap_print.specs.Typed as t
use Rattle.snap_yaml.specs.Value.{Value, real, integer, string, boolean, null}

-- a number that is kept as its text is that whole number, where 128 bits hold it
abbrev pub kept_number : List ℕ → Typed
kept_number w = if is_integer_text w && has_128_bits (number_in 10 w) then value (p.int (number_in 10 w)) else t.real

-- no scalar is typed as a list or as a bad value
abbrev pub plain_typed : Value → Typed
plain_typed (real w) = kept_number w
plain_typed (integer z) = value (p.int z)
plain_typed (string w) = value (p.text w)
plain_typed (boolean b) = value (p.bool b)
plain_typed null = value p.null
plain_typed _ = t.real
