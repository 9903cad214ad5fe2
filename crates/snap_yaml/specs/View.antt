-- What a `Yaml` and its list types are seen as.
use Rattle.std.specs.Prelude.{List, map}
use Rattle.snap_yaml.specs.Value as v
use Rattle.snap_yaml.specs.declared.yaml.Yaml.{Yaml}
use Rattle.snap_yaml.specs.declared.yaml.Yaml.TheOpen.{Yaml-F}
use Rattle.snap_yaml.specs.declared.yaml.Yaml.TheFolds.{fold-Yaml}
use Rattle.snap_content.specs.declared.lists.List as l
use Rattle.snap_content.specs.List.{items_of}

-- one level, with each value inside already seen
abbrev pub yaml_step : Yaml-F v.Value → v.Value
yaml_step (Yaml-F.Real text) = v.real text
yaml_step (Yaml-F.Integer z) = v.integer z
yaml_step (Yaml-F.String text) = v.string text
yaml_step (Yaml-F.Boolean b) = v.boolean b
yaml_step (Yaml-F.Array items) = v.array (v.values_of (items_of items))
yaml_step (Yaml-F.Hash pairs) = v.hash (v.pairs_of (items_of pairs))
yaml_step Yaml-F.Null = v.null
yaml_step Yaml-F.BadValue = v.bad_value

-- the value that a `Yaml` means
abbrev pub value_of : Yaml → v.Value
value_of = fold-Yaml v.Value yaml_step

-- the list types, and their elements
abbrev pub Array : Type 0
Array = l.List Yaml

abbrev pub Hash : Type 0
Hash = l.List (Yaml × Yaml)

-- the items of an array, in their order
abbrev pub array_list : Array → List Yaml
array_list = items_of

-- the pairs of a hash, in their order
abbrev pub hash_list : Hash → List (Yaml × Yaml)
hash_list = items_of

-- the values of lists of elements
abbrev pub array_values : List Yaml → v.Values
array_values ys = v.values_of (map value_of ys)

abbrev pub pair_value : Yaml × Yaml → v.Value × v.Value
pair_value p = (value_of p.0, value_of p.1)

-- the values of pairs
abbrev pub hash_values : List (Yaml × Yaml) → v.ValuePairs
hash_values ps = v.pairs_of (map pair_value ps)
