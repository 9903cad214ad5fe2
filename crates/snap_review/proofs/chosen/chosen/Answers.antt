use Rattle.snap_review.proofs.Prelude.{◌≡◌, ◌++◌, ap, ◌∙◌, rules, flat_map, values_of, asked, asked_by}
use Rattle.snap_review.proofs.Choosing.{values-asked}
use Rattle.snap_review.proofs.chosen.chosen.Goals as goal

pub loop-record-init : goal.loop-record-init
loop-record-init c =
    let all : c.into_iter-record-iterator.result ≡ values_of c.in_ok-last.last.entries = search rules in
    ap (λ xs. xs ++ flat_map asked c.into_iter-record-iterator.result) c.new-changes.ensures.items
    ∙ ap (flat_map asked) all ∙ values-asked c.in_ok-last.last.entries ∙ ap (flat_map asked_by) c.in_ok-last.ensures
