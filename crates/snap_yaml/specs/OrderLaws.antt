-- The law of the comparisons of a `Yaml`.
use Rattle.std.specs.Cmp.{IsTotalOrder}
use Rattle.std.proofs.lemmas.Cmp.{on_total}
use Rattle.snap_yaml.specs.View.{value_of}
use Rattle.snap_yaml.specs.Compared.{yaml_cmp}
use Rattle.snap_yaml.specs.TotalOrder.{value_total}

pub yaml_total : IsTotalOrder yaml_cmp
yaml_total = on_total value_of value_total
