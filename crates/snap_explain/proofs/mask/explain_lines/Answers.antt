use Rattle.snap_explain.proofs.Prelude.{◌≡◌, ◌∙◌, sym, subst, inl, Some, some_same, replacements_of}
use Rattle.snap_explain.specs.Findings.{LeavesOf}
use Rattle.snap_explain.specs.Program.{mask_rules}
use Rattle.snap_explain.proofs.Endings.{stops_at_start, mask_masking}
use Rattle.snap_explain.proofs.mask.explain_lines.Goals as goal

pub returns-in-Err-clause-leaves : goal.returns-in-Err-clause-leaves
returns-in-Err-clause-leaves g c = λ rules spelled input w e f. inl (stops_at_start rules input w _ f)

pub returns-in-Ok-Some-clause-leaves : goal.returns-in-Ok-Some-clause-leaves
returns-in-Ok-Some-clause-leaves g c = λ rules spelled.
    let held = replacements_of c.in-Ok-Some.rules.items in
    let found : Some held ≡ mask_rules c.args.words.now = rw c.in-Ok-Some.field-0-is at c.in-Ok-Some.ensures in
    subst (λ rs. LeavesOf rs c.explain_by.result (g.S.Source.left c.args.source.now) (g.K.Sink.written c.args.sink.now) (g.K.Sink.written c.explain_by.new.sink))
    (some_same held rules (found ∙ spelled)) (c.explain_by.ensures.leaves (mask_masking c.args.words.now held (sym found)))
