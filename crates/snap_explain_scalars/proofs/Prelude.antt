-- The words that the proofs of this crate speak in: those of the library, of the crates below, and of its own definitions.
pub use Rattle.std.proofs.Common.{◌≡◌, ◌==◌, ◌<◌, ◌||◌, ◌∙◌, ℕ, Bool, true, false, cond, List, [], ◌∷◌, ◌++◌, Option, None, Some, Result, Ok, Err, length, refl, sym, ap, subst, inl, inr, arith, rules, append_assoc, length-append}
pub use Rattle.std.specs.Option.{option_or}
pub use Rattle.std.specs.Prelude.{OnOk, OnErr, IfErr, IfSome, MatchOption}
pub use denote.Shadow.{shadow}
pub use denote.Text.{Utf8}
pub use Rattle.std.proofs.lemmas.Bool.Decides.{nat_tests}
pub use Rattle.std.proofs.lemmas.Result.{IfOk-weaker}
pub use Rattle.std.specs.List.{list_any}
pub use Rattle.std.specs.Str.{chars}
pub use Rattle.snap_str.specs.Cut.{IsLastPart, Lacks}
pub use Rattle.snap_explain_scalars.specs.Numbers.{stays_short}
pub use Rattle.snap_explain_scalars.specs.Parts.{after_last, ends_otherwise, in_front, is_cut, parts_in}
