use Rattle.snap_assert_settings.proofs.Prelude.{map, take, tree, redaction_of, RedactedBy}
use Rattle.snap_assert_settings.proofs.redactions.Redactions.apply.Given as goal

abbrev pub invariant-loop-selector : goal.invariant-loop-selector
invariant-loop-selector g l =
    RedactedBy (λ v p. (goal.Redactor-dyn g (v, p)).allows p) (map redaction_of (take l.selector-index l.selector-items)) (tree l.fn.content) (tree l.made)
