use Rattle.snap_mask.proofs.Prelude.{sym, ◌∙◌, tree}
use Rattle.std.proofs.lemmas.Result.{IfErr-weaker}
use Rattle.snap_mask.proofs.LinesRead.{nul_held, begins_badly, misfit_refused}
use Rattle.snap_mask.proofs.record.value_of.Goals as goal

pub returns-then-holds_nul-clause-why : goal.returns-then-holds_nul-clause-why
returns-then-holds_nul-clause-why c = nul_held _ _ c.in-Ok.ensures.cases.0 (rw c.if-holds_nul.true at c.holds_nul.ensures)

pub returns-in_default-beginning_in-clause-why : goal.returns-in_default-beginning_in-clause-why
returns-in_default-beginning_in-clause-why c = begins_badly _ _ c.in-Ok.ensures.cases.0 (sym c.beginning_in.ensures ∙ c.in_default-beginning_in.is)

pub returns-clause-why : goal.returns-clause-why
returns-clause-why c =
    IfErr-weaker c.beginning_so.result _ _
    (λ error h. misfit_refused error _ _ (tree c.in_ok-value.value) c.in-Some.beginning c.in-Ok.ensures.cases.0 (sym c.beginning_in.ensures ∙ c.in-Some.is) h c.in_ok-value.ensures.json)
    c.beginning_so.ensures.err
