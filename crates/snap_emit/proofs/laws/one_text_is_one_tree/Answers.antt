use Rattle.snap_emit.proofs.OneText.{texts_same, headers_same}
use Rattle.snap_emit.proofs.laws.one_text_is_one_tree.Goals as goal

pub returns-clause-printed : goal.returns-clause-printed
returns-clause-printed c = texts_same

pub returns-clause-spelled : goal.returns-clause-spelled
returns-clause-spelled c = headers_same
