use Rattle.snap_text_literals.proofs.Meanings.{reads}
use Rattle.snap_text_literals.proofs.laws.reads_as_meant.Goals as goal

pub returns : goal.returns
returns c = reads
