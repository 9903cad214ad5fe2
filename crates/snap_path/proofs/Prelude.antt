-- The words that the proofs of this crate speak in: those of the library, of the crates below, and of its own definitions.
pub use Rattle.std.proofs.Common.{◌≡◌, ℕ, ◌<◌, ◌≤◌, ◌+◌, List, [], ◌∷◌, ◌++◌, Option, None, Some, Bor, length, take, drop, get_or, refl, sym, ap, ◌∙◌, subst, arith, length-append, length-drop, MatchOption, IfSome, inl, inr, ◌⊎◌, ◌≢◌, ◌==◌, Bool, true, false, cond, eq-eqb, true-eqb, lit≤, ◌||◌, append_assoc, codes, append-nil, rules}
pub use Rattle.std.proofs.Math.Seq.{take-append_seam, drop-append_seam}
pub use Rattle.std.proofs.lemmas.List.Elements.{All-nil, All-cons, All-head, All-tail, All-append, All-filter, filter_passes, All-same, filter-append}
pub use Rattle.std.proofs.lemmas.Str.{encodes-chars, encodes-append, encodes-IsAscii, chars-append, length-le-encodes, IsUtf8-take, IsUtf8-from_ascii, IsCharBoundary-before_ascii, chars-nil}
pub use Rattle.std.specs.List.{list_all, filter, list_any, All, flat_map}
pub use Rattle.std.specs.Str.{chars, IsUtf8, IsAscii, bytes_eq}
pub use denote.Shadow.{shadow}
pub use denote.Text.{Utf8}
pub use Rattle.snap_content.proofs.Ascii.{IsAscii-list_all, chars-ascii}
pub use Rattle.snap_content.proofs.Booleans.{or_left, or_right}
pub use Rattle.snap_str.specs.Lines.{onto}
pub use Rattle.snap_path.specs.Names.{cut_last, cut_of, Cut, past_mark, later_or_here}
pub use Rattle.snap_path.specs.Paths.{between_slashes, is_component, components, is_absolute, slashed, path_of_parts, joined, all_but_last, last_of, parent_of, name_of, IsName, front_behind, front_of, then_slashed, stand_behind, start, behind_slash, steps_up, Apart, apart, AreApart, from_apart}
