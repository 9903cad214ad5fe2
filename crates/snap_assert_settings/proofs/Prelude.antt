-- The words that the proofs of this crate speak in: those of the library, of the crates below, and of its own definitions.
pub use Rattle.std.proofs.Common.{◌≡◌, List, [], ◌∷◌, map, refl, ap, ◌∙◌, subst, ℕ, ◌+◌, ◌<◌, ◌++◌, length, take, get_or, sym, append_assoc, append-nil, arith, inl, inr, Bool, true, false, ◌||◌}
pub use Rattle.std.specs.Vec.Iter.{into_iter_items, into_iter_len}
pub use Rattle.snap_content.specs.Tree.{Tree}
pub use Rattle.snap_content.specs.View.{tree}
pub use Rattle.snap_select.specs.Put.{Objects, Puts}
pub use Rattle.snap_select.specs.Redacting.{only, IsRedacted}
pub use Rattle.snap_select.specs.Selectors.{parts_of}
pub use Rattle.snap_select.specs.declared.redaction.Redaction.{Redaction}
pub use Rattle.snap_select.specs.declared.selector.Selector.{Selector}
pub use Rattle.snap_assert_settings.specs.Redactions.{RedactionView, RedactedBy, redaction_at, redaction_of, AreRedactions, AreRefused, redactions_of}
pub use Rattle.snap_assert_settings.specs.Replaced.{replacements_of, redaction_for, redacted_by}
pub use Rattle.snap_assert_settings.specs.Settings.{settings_of, redactions_in, sorted_where, PrintsAs}
pub use Rattle.std.proofs.lemmas.List.{take_more, take_all}
pub use Rattle.std.specs.List.{list_any}
pub use Rattle.snap_select.specs.Parts.{Parts}
pub use Rattle.snap_assert_settings.specs.Copies.{Shown, ShownAt, shown_of, shown_at, shown_redactions, is_called, calls}
