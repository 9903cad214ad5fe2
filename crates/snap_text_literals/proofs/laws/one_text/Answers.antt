use Rattle.snap_text_literals.proofs.Reading.{reads-one}
use Rattle.snap_text_literals.proofs.laws.one_text.Goals as goal

pub returns : goal.returns
returns c = reads-one
