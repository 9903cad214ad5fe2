use Rattle.snap_front.proofs.Prelude.{item_list}
use Rattle.snap_front.proofs.Found.{item_found}
use Rattle.snap_front.proofs.trees.item_at.Goals as goal

pub returns : goal.returns
returns c = item_found c.get.result (item_list c.args.items.now) c.args.place c.get.ensures
