use Rattle.snap_assert_settings.proofs.Prelude.{◌≡◌, ◌++◌, length, map, into_iter_items, into_iter_len, redactions_of, redaction_for}
use Rattle.snap_assert_settings.proofs.redactions.Redactions.from_replacements.Given as goal

abbrev pub invariant-loop-selector : goal.invariant-loop-selector
invariant-loop-selector g l = record {
  so_far : map redaction_for (into_iter_items l.initial.selector-iterator) ≡ redactions_of l.made ++ map redaction_for (into_iter_items l.selector-iterator);
  left : into_iter_len l.selector-iterator ≡ length (into_iter_items l.selector-iterator);
}
