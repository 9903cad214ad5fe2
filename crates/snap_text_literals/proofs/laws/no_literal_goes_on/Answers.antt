use Rattle.snap_text_literals.proofs.LiteralFronts.{literal-alone}
use Rattle.snap_text_literals.proofs.laws.no_literal_goes_on.Goals as goal

pub returns : goal.returns
returns c = literal-alone
