-- The order of a `Yaml`: that of the value that it means.
use Rattle.std.specs.declared.cmp.Ordering.{Ordering}
use Rattle.snap_yaml.specs.declared.yaml.Yaml.{Yaml}
use Rattle.snap_yaml.specs.View.{value_of}
use Rattle.snap_yaml.specs.Orders.{value_cmp}

abbrev pub yaml_cmp : Yaml → Yaml → Ordering
yaml_cmp x y = value_cmp (value_of x) (value_of y)
