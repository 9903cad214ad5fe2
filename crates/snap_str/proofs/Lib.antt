mod Prelude
mod Cuts
pub mod AsciiBytes
mod Bytes
mod Trims
pub mod LineTexts
