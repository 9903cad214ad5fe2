use Rattle.snap_content.proofs.Settled.{settles}
use Rattle.snap_content.proofs.laws.sorting_twice_is_once.Goals as goal

pub returns : goal.returns
returns c = λ tree once twice first second. settles tree once first twice second
