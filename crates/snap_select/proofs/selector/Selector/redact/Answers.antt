use Rattle.snap_select.proofs.Prelude.{IfOk-weaker, tree, Puts, parts_of}
use Rattle.snap_select.proofs.Answered.{moved}
use Rattle.snap_select.proofs.OneRedacted.{weaker_redacted}
use Rattle.snap_select.proofs.QuietTrees.{quiet_redacted}
use Rattle.snap_select.proofs.RedactedParts.{redacted_redacts}
use Rattle.snap_select.proofs.selector.Selector.redact.Goals as goal

pub returns-clause-parts : goal.returns-clause-parts
returns-clause-parts g c =
    IfOk-weaker c.redact_whole.result _ _
    (λ out p. weaker_redacted _ _ (Puts (λ v. (g.dyn-1.0.entry v).1.allows) c.args.redaction.now)
    (λ t steps new q. moved (Puts (λ v. (g.dyn-1.0.entry v).1.allows) c.args.redaction.now) _ _ _ _ _ _ q.4 q.5 q.6 q.7.2) _ _ p)
    c.redact_whole.ensures

pub returns-clause-redacted : goal.returns-clause-redacted
returns-clause-redacted g c =
    IfOk-weaker c.redact_whole.result _ _
    (λ out p. redacted_redacts (parts_of c.args.self.now) (Puts (λ v. (g.dyn-1.0.entry v).1.allows) c.args.redaction.now) (tree c.args.value) (tree out) p)
    (returns-clause-parts g c)

pub returns-clause-untouched : goal.returns-clause-untouched
returns-clause-untouched g c =
    IfOk-weaker c.redact_whole.result _ _
    (λ out p quiet. quiet_redacted (parts_of c.args.self.now) _ (tree c.args.value) (tree out) quiet p) c.redact_whole.ensures
