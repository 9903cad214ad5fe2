-- The words that the proofs of this crate speak in.
pub use Rattle.std.proofs.Common.{◌≡◌, ◌++◌, Some}
pub use Rattle.snap_io_words.specs.Arguments.{arguments_in, words_after_name}
