-- Words that are paths.
use Rattle.snap_front.proofs.Prelude.{◌≡◌, ℕ, List, [], None, Some, option_and_then, refl, ap, ◌∙◌, path_in, IsPath, IsOther, Step, Parts}
use Rattle.snap_select.specs.Grammar.{IsSelector}
use Rattle.snap_select.specs.Reading.{Outcome, selects, refuses, outcome, before_part}
use Rattle.snap_select.specs.Selected.{parts_in}
use Rattle.snap_select.proofs.Outcomes.{selects_selector, selector_selected}
use Rattle.snap_front.specs.Wanted.{path_read}

pub path-is-read : (text : List ℕ) (steps : List Step) → IsPath text steps → path_read text ≡ Some steps
path-is-read text steps h = ap (option_and_then path_in) (selector_selected text h.parts h.selector) ∙ h.are

pub other-is-none : (text : List ℕ) → IsOther text → path_read text ≡ None
other-is-none text h = ap (option_and_then path_in) (selector_selected text h.parts h.selector) ∙ h.none

pub refused-is-none : (text : List ℕ) → ((parts : Parts) → IsSelector text parts → ⊥) → path_read text ≡ None
refused-is-none text refused = ap (option_and_then path_in) (by (outcome (before_part []) text) refl)
  where
    by : (o : Outcome) → outcome (before_part []) text ≡ o → parts_in (outcome (before_part []) text) ≡ None
    by (selects parts) is = absurd (refused parts (selects_selector text parts is))
    by (refuses fault left) is = ap parts_in is
