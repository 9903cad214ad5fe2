-- The law of the comparisons of a `Content`.
use Rattle.std.specs.Cmp.{IsTotalOrder}
use Rattle.std.proofs.lemmas.Cmp.{on_total}
use Rattle.snap_content.specs.View.{tree}
use Rattle.snap_content.specs.Compared.{content_cmp}
use Rattle.snap_content.specs.TotalOrder.{tree_total}

pub content_total : IsTotalOrder content_cmp
content_total = on_total tree tree_total
