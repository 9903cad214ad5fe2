-- The words that the proofs of this crate speak in: those of the library, of the crates below, and of its own definitions.
pub use Rattle.std.proofs.Common.{◌≡◌, ◌⊎◌, inl, inr, ℕ, List, Result, Ok, Err, sym, ap, ◌∙◌, subst, ◌==◌, [], ◌∷◌, ◌++◌, Bool, false, ◌||◌, refl, append_assoc, append-nil, ◌&&◌, true, cond, rules, length}
pub use Rattle.std.specs.Fmt.{HasWritten, IsPlainFormatter}
pub use Rattle.std.specs.List.{list_any, flat_map}
pub use Rattle.std.specs.Result.{IfOk}
pub use Rattle.std.specs.Str.{chars, IsUtf8}
pub use Rattle.snap_content.proofs.Booleans.{or_left, or_right}
pub use Rattle.snap_content.specs.Lines.{ended}
pub use Rattle.snap_content.specs.Plain.{Plain}
pub use Rattle.snap_print.specs.Readable.{IsWithin}
pub use Rattle.snap_text_literals.specs.Inline.{inline_normal, from_byte, written}
pub use Rattle.snap_text_literals.specs.Normal.{trimmed}
pub use Rattle.snap_text_literals.specs.Spelled.{spelled, meant, IsIndentation}
pub use Rattle.snap_print.specs.Blocks.{Blocks}
pub use Rattle.snap_print.specs.Lines.{text_of}
pub use Rattle.snap_print.specs.Printed.{IsLine, AreRows, EndsWell, is_trimmed, is_break, begins_dashes}
pub use Rattle.snap_text.specs.Contents.{raw_of, kind_of, normal_as, legacy_as, normal_of, MatchLatest, IsSettled, ReadsBack, InlineLaw, width_as}
pub use Rattle.snap_text.specs.Normal.{normal}
pub use Rattle.snap_text.specs.declared.contents.TextSnapshotKind.TheVariants.{Inline, File}
pub use Rattle.snap_text.specs.declared.contents.TextSnapshotKind.{TextSnapshotKind}
