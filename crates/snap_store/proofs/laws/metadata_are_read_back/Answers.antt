use Rattle.snap_store.proofs.MetaTrees.{meta_tree-tells}
use Rattle.snap_store.proofs.laws.metadata_are_read_back.Goals as goal

pub returns : goal.returns
returns c = meta_tree-tells
