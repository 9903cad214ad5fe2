-- The words that the proofs of this crate speak in: those of the library, of the crates below, and of its own definitions.
pub use Rattle.std.proofs.Common.{◌≡◌, ℕ, List, [], ◌∷◌, ◌++◌, Bool, true, false, cond, refl, sym, ap, ◌∙◌, subst, ◌==◌, Some, append_assoc, codes, ◌||◌, length, unwrap_or, inl, inr}
pub use Rattle.std.proofs.lemmas.List.Elements.{All-append}
pub use Rattle.std.proofs.lemmas.Result.{IfOk-weaker}
pub use Rattle.std.specs.List.{filter, flat_map}
pub use Rattle.std.specs.Prelude.{if◌then◌else◌, IsSome}
pub use Rattle.std.specs.Str.{bytes_eq, chars}
pub use denote.Shadow.{shadow}
pub use denote.Text.{Utf8}
pub use Rattle.snap_content.proofs.Ascii.{chars-ascii}
pub use Rattle.snap_content.proofs.Booleans.{or_left, or_right, not_true}
pub use Rattle.snap_path.proofs.Joining.{name-from-parts, components-names, parts-components, parts-absolute, joined-normal, joined-name}
pub use Rattle.snap_path.specs.Paths.{is_component, components, is_absolute, slashed, path_of_parts, joined, Apart, apart, from_apart, same_start, relative_from, IsName, between_slashes, last_of, name_of, parent_of, front_of}
pub use Rattle.snap_assert_place.specs.Place.{holds_slash, PlaceView, last_part}
pub use Rattle.snap_assert_place.specs.SnapshotPath.{file_prefix, flat_name, file_name, path_of, IsFilePath, dotless_character, flat_character, flat_module}
pub use Rattle.std.proofs.Common.{Option, None}
pub use Rattle.std.specs.Prelude.{is_some}
pub use Rattle.snap_path.specs.Names.{past_mark}
pub use Rattle.snap_str.specs.Cut.{IsLastPart}
pub use Rattle.snap_assert_place.specs.Names.{past_colons, holds_colons, last_name}
