use Rattle.snap_text.proofs.NormalForms.{normal-printed}
use Rattle.snap_text.proofs.OlderForms.{legacy-printed}
use Rattle.snap_text.proofs.laws.printed_texts_are_normal.Goals as goal

pub returns-clause-normal : goal.returns-clause-normal
returns-clause-normal c = normal-printed

pub returns-clause-older : goal.returns-clause-older
returns-clause-older c = legacy-printed
