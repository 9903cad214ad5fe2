use Rattle.snap_select.proofs.Prelude.{chars}
use Rattle.snap_select.proofs.Outcomes.{selects_selector}
use Rattle.snap_select.proofs.selector.Selector.parse.Goals as goal

pub returns-in-Ok-clause-ok : goal.returns-in-Ok-clause-ok
returns-in-Ok-clause-ok c = selects_selector (chars c.args.selector.now) c.in-Ok.parts.items c.in-Ok.ensures.ok
