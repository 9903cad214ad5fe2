-- Whether a value is the key that is looked for.
use Rattle.std.specs.Prelude.{Bool}
use Rattle.std.specs.Str.{chars}
use Rattle.snap_yaml.specs.Value.{Value}
use Rattle.snap_yaml.specs.Lookup.{is_text, is_number}
use Rattle.snap_yaml.specs.declared.lookup.Key.{Key}
use Rattle.snap_yaml.specs.declared.lookup.Key.TheVariants as k

abbrev pub is_key : Key → Value → Bool
is_key (k.Text text) = is_text (chars text.now)
is_key (k.Number n) = is_number n
