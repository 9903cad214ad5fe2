use Rattle.snap_assert_settings.proofs.Prelude.{◌≡◌, length, into_iter_items, into_iter_len, redactions_of}
use Rattle.snap_assert_settings.proofs.RedactionLists.{GoesOn}
use Rattle.snap_assert_settings.proofs.redactions.Redactions.from_list.Given as goal

abbrev pub invariant-loop-selector : goal.invariant-loop-selector
invariant-loop-selector g l = record {
  so_far : GoesOn (into_iter_items l.initial.selector-iterator) (into_iter_items l.selector-iterator) (redactions_of l.made);
  left : into_iter_len l.selector-iterator ≡ length (into_iter_items l.selector-iterator);
}
