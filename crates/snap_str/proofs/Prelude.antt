-- The words that the proofs of this crate speak in: those of the library, of the crates below, and of its own definitions.
pub use Rattle.std.proofs.Common.{◌≡◌, ◌≢◌, ◌==◌, ℕ, ◌<◌, ◌≤◌, ◌+◌, ◌-◌, List, [], ◌∷◌, ◌++◌, Option, None, Some, Bor, length, take, drop, refl, sym, ap, ◌∙◌, subst, arith, inl, length-append, MatchOption, IfSome, Bool, true, false, ◌&&◌, cond, append_assoc}
pub use Rattle.std.proofs.lemmas.Bool.{or_from, or_parts, ne_eqb, eqb-true, eqb-false}
pub use Rattle.std.proofs.lemmas.List.{take-append-drop, append_cancel_right}
pub use Rattle.std.proofs.lemmas.Str.{chars_from_encodes, encodes-chars, encodes-append, chars-append, chars_past_char, IsUtf8-take, IsUtf8-drop, IsUtf8-append, IsUtf8-encode, IsCharBoundary-from_drop, chars-nil}
pub use Rattle.std.specs.List.{list_any}
pub use Rattle.std.specs.Str.{IsUtf8, NoCharPasses, NonePass, IsCharBoundary, skip_leading_whitespace, drop_trailing_whitespace}
unfoldable pub use Rattle.std.specs.Str.{chars, trim_start, trim_end}
pub use Rattle.std.specs.Str.Pattern.{HasCharAt, FindsChar, RFindsChar, FindsTextPrefix, FindsTextSuffix, SplitsAroundMatch, StripsPrefix, StripsSuffix}
pub use lib.Utf8.{encode, encodes}
pub use Rattle.snap_str.specs.Cut.{Lacks, IsCutAtFirst, IsCutAtLast, IsLastPart}
