mod Prelude
pub mod Between
pub mod Leading
pub mod Blocks
