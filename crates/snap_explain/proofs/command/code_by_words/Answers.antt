use Rattle.snap_explain.proofs.Prelude.{refl, sym}
use Rattle.snap_explain.specs.Program.EndsBy.{by_naming, by_previewing, by_explaining}
use Rattle.snap_explain.proofs.command.code_by_words.Goals as goal

pub returns-in-Some-clause-run : goal.returns-in-Some-clause-run
returns-in-Some-clause-run g c = by_naming c.in-Some.workspace.now c.name_unused.result (sym c.in-Some.ensures) c.code.ensures c.name_unused.ensures.run

pub returns-in-Some-words_after-clause-run : goal.returns-in-Some-words_after-clause-run
returns-in-Some-words_after-clause-run g c = by_previewing c.in-Some-words_after.review.now c.explain_review.result c.in-Some-words_after.ensures c.code-in-Some-words_after.ensures c.explain_review.ensures.end refl

pub returns-in-None-words_after-clause-run : goal.returns-in-None-words_after-clause-run
returns-in-None-words_after-clause-run g c =
    by_explaining c.explain.result (sym c.in-None.ensures) c.in-None-words_after.ensures c.code-in-None-words_after.ensures
    (record { words_cause = c.explain.ensures.words; told = c.explain.ensures.told; stream = c.explain.ensures.stream; front = c.explain.ensures.front; leaves = c.explain.ensures.leaves })
