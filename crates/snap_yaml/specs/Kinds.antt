-- What a scalar is, beside its text.
use Rattle.std.specs.Prelude.{ℕ, List}
use Rattle.snap_yaml.specs.Value.{Value, real, integer, string, boolean, null, bad_value}
use Rattle.snap_yaml.specs.declared.typing.Kind.{Kind}
use Rattle.snap_yaml.specs.declared.typing.Kind.TheVariants as k

-- the value of a kind and a text
abbrev pub value_of_kind : Kind → List ℕ → Value
value_of_kind k.Real w = real w
value_of_kind (k.Integer z) w = integer z
value_of_kind k.String w = string w
value_of_kind (k.Boolean b) w = boolean b
value_of_kind k.Null w = null
value_of_kind k.BadValue w = bad_value
