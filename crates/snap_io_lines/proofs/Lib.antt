mod Prelude
mod Cutting
pub mod Pieces
