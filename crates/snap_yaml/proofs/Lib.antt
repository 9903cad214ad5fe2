mod Prelude
pub mod SameValues
pub mod Ordered
mod Numerals
pub mod Through
pub mod Views
