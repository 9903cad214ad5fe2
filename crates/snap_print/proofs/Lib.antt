mod Prelude
pub mod Tests
pub mod Digits
pub mod Words
mod Bytes
mod Beginnings
pub mod Escapes
pub mod BareRuns
pub mod Spellings
pub mod Rows
pub mod Typing
