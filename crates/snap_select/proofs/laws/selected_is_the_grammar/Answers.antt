use Rattle.snap_select.proofs.Outcomes.{selector_selected, selected_selector}
use Rattle.snap_select.proofs.laws.selected_is_the_grammar.Goals as goal

pub returns-clause-some : goal.returns-clause-some
returns-clause-some c = selector_selected

pub returns-clause-selector : goal.returns-clause-selector
returns-clause-selector c = selected_selector
