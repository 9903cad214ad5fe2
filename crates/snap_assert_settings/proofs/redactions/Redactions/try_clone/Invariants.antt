use Rattle.snap_assert_settings.proofs.Prelude.{◌≡◌, false, map, take, list_any, redaction_of, redactions_of, shown_redactions, calls}
use Rattle.snap_assert_settings.proofs.redactions.Redactions.try_clone.Given as goal

abbrev pub invariant-loop-selector : goal.invariant-loop-selector
invariant-loop-selector g l = record {
  equal : shown_redactions (redactions_of l.copies) ≡ shown_redactions (map redaction_of (take l.selector-index l.selector-items));
  none : list_any calls (map redaction_of (take l.selector-index l.selector-items)) ≡ false;
}
