use Rattle.snap_select.proofs.Prelude.{rules, chars_from_encodes}
use Rattle.snap_select.proofs.selector.characters.Goals as goal

pub returns-clause-count : goal.returns-clause-count
returns-clause-count c = search (rules, chars_from_encodes)
