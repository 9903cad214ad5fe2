use Rattle.snap_select.proofs.Outcomes.{selector_selects, selects_selector}
use Rattle.snap_select.proofs.laws.reading_is_the_grammar.Goals as goal

pub returns-clause-selects : goal.returns-clause-selects
returns-clause-selects c = selector_selects

pub returns-clause-selected : goal.returns-clause-selected
returns-clause-selected c = selects_selector
