use Rattle.snap_text_literals.proofs.Returns.{normal-once}
use Rattle.snap_text_literals.proofs.laws.normal_once.Goals as goal

pub returns : goal.returns
returns c = normal-once
