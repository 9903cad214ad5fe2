use Rattle.snap_str.proofs.Prelude.{chars}
use Rattle.snap_str.proofs.LineTexts.{past_return, no_return, one_return}
use Rattle.snap_str.proofs.lines.without_return.Goals as goal

pub returns-in-Some : goal.returns-in-Some
returns-in-Some c = past_return (chars c.args.line.now) (chars c.in-Some.front.now) _ one_return c.in-Some.ensures

pub returns-in-None : goal.returns-in-None
returns-in-None c = no_return (chars c.args.line.now) _ one_return c.in-None.ensures
