use Rattle.snap_content.proofs.Prelude.{rules, inr, ranks_by, answers_always, IsStrictWeakOrder, key_total, tree}
use Rattle.snap_content.proofs.KeyOrdered.{content_before, in_key_order}
use Rattle.snap_content.proofs.sorting.sort_entries.Goals as goal

pub returns-clause-ok : goal.returns-clause-ok
returns-clause-ok c =
    let weak : IsStrictWeakOrder content_before = ranks_by key_total (λ p. tree p.0) in
    in_key_order _ _ c.in_ok-sort_by.ensures.permutation
    (c.in_ok-sort_by.ensures.sorted content_before weak (answers_always _ _ _ (λ f a r h k. search rules)))
    (c.in_ok-sort_by.ensures.stable content_before weak (answers_always _ _ _ (λ f a r h k. search rules)))

pub returns-clause-partly : goal.returns-clause-partly
returns-clause-partly c =
    let weak : IsStrictWeakOrder content_before = ranks_by key_total (λ p. tree p.0) in
    inr (in_key_order _ _ c.in_ok-sort_by.ensures.permutation
    (c.in_ok-sort_by.ensures.sorted content_before weak (answers_always _ _ _ (λ f a r h k. search rules)))
    (c.in_ok-sort_by.ensures.stable content_before weak (answers_always _ _ _ (λ f a r h k. search rules))))
