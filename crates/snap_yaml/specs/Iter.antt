-- What an iterator over the items of a value has left.
use Rattle.std.specs.Prelude.{List, [], Option, None, Some}
use Rattle.snap_yaml.specs.declared.yaml.Yaml.{Yaml}
use Rattle.snap_yaml.specs.declared.iter.YamlIter.{YamlIter}
use Rattle.std.specs.Vec.Iter.{into_iter_items}
use Rattle.std.specs.declared.vec.IntoIter.{IntoIter}
use Rattle.std.specs.declared.alloc.Global.{Global}

abbrev pub left_in : Option (IntoIter Yaml Global) → List Yaml
left_in None = []
left_in (Some items) = into_iter_items items

abbrev pub items_left : YamlIter → List Yaml
items_left it = left_in it.items
