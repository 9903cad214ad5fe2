mod Prelude
mod Turns
mod DigitNumbers
mod Trees
pub mod Scalars
mod Documents
pub mod Spelled
pub mod Apart
pub mod PathOf
