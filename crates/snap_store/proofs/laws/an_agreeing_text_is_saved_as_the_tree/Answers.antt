use Rattle.snap_store.proofs.Images.{saving_agreeing}
use Rattle.snap_store.proofs.laws.an_agreeing_text_is_saved_as_the_tree.Goals as goal

pub returns : goal.returns
returns c = saving_agreeing
