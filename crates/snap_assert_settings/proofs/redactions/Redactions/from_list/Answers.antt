use Rattle.snap_assert_settings.proofs.Prelude.{◌≡◌, [], sym, ◌∙◌, subst, into_iter_items, redactions_of, AreRedactions}
use Rattle.snap_assert_settings.proofs.RedactionLists.{all_made, nothing_left}
use Rattle.snap_assert_settings.proofs.redactions.Redactions.from_list.Goals as goal

pub returns-clause-ok : goal.returns-clause-ok
returns-clause-ok g c =
    let at = c.loop-selector in
    let rest = into_iter_items at.selector-iterator in
    let empty : rest ≡ [] = nothing_left rest (sym at.invariant.left ∙ c.in-None.ensures.steps.0) in
    subst (λ whole. AreRedactions whole (redactions_of at.made)) c.into_iter-selector-iterator.ensures.into_iter_gives.0
    (all_made (into_iter_items c.into_iter-selector-iterator.result) rest (redactions_of at.made) at.invariant.so_far empty)
