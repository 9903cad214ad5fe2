-- The words that the proofs of this crate speak in.
pub use Rattle.std.proofs.Common.{◌≡◌, ◌≢◌, ◌++◌, ◌∙◌, ◌<◌, ◌^◌, ℕ, false, List, Option, None, Some, refl, sym, ap, subst, arith}
pub use Rattle.snap_io.specs.Files.{Files}
pub use Rattle.snap_io.specs.Streams.{HoldsFront}
pub use Rattle.std.specs.Prelude.{encode_utf8_all}
