use Rattle.snap_explain_values.proofs.Prelude.{◌≡◌, false, [], sym, ◌∙◌, hits}
use Rattle.snap_explain_values.proofs.Hits.{left_is_unhit}
use Rattle.snap_explain_values.proofs.laws.what_hits_changes_something.Goals as goal

pub returns-clause-other : goal.returns-clause-other
returns-clause-other c = λ parts put value apart hit left.
    let none : hits parts [] value ≡ false = left_is_unhit parts put put (λ t e f. apart t e) value left left in cc

pub returns-clause-trees : goal.returns-clause-trees
returns-clause-trees c = λ parts one two value apart hit left also.
    let none : hits parts [] value ≡ false = left_is_unhit parts (λ _. one) (λ _. two) (λ t e f. apart (e ∙ sym f)) value left also in cc
