use Rattle.snap_mask.proofs.Prelude.{◌≡◌, ◌∙◌, sym, subst, Some, some_same, replacements_of, rules_in, LeavesOf}
use Rattle.snap_mask.proofs.Runs.{stops_at_start}
use Rattle.snap_mask.proofs.Complete.{rules_cause}
use Rattle.snap_mask.proofs.KeptKeys.{masking}
use Rattle.snap_mask.proofs.masking.mask_words.Goals as goal

pub returns-in-Err-clause-leaves : goal.returns-in-Err-clause-leaves
returns-in-Err-clause-leaves g c = λ rules spelled input w e f. stops_at_start rules input w _ f

pub returns-in-Ok-Some-clause-words : goal.returns-in-Ok-Some-clause-words
returns-in-Ok-Some-clause-words g c =
    let found : Some (replacements_of c.in-Ok-Some.rules.items) ≡ rules_in c.args.words.now = rw c.in-Ok-Some.field-0-is at c.in-Ok-Some.ensures in
    rules_cause c.args.words.now (replacements_of c.in-Ok-Some.rules.items) c.mask_by.result (sym found) c.mask_by.ensures.words

pub returns-in-Ok-Some-clause-refused : goal.returns-in-Ok-Some-clause-refused
returns-in-Ok-Some-clause-refused g c = λ is. absurd (c.mask_by.ensures.words is)

pub returns-in-Ok-Some-clause-leaves : goal.returns-in-Ok-Some-clause-leaves
returns-in-Ok-Some-clause-leaves g c = λ rules spelled.
    let held = replacements_of c.in-Ok-Some.rules.items in
    let found : Some held ≡ rules_in c.args.words.now = rw c.in-Ok-Some.field-0-is at c.in-Ok-Some.ensures in
    subst (λ rs. LeavesOf rs c.mask_by.result (g.S.Source.left c.args.source.now) (g.K.Sink.written c.args.sink.now) (g.K.Sink.written c.mask_by.new.sink))
    (some_same held rules (found ∙ spelled)) (c.mask_by.ensures.leaves (masking c.args.words.now held (sym found)))
