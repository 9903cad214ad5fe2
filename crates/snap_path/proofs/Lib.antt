mod Prelude
pub mod Parts
pub mod Cuts
mod CutTexts
pub mod Joining
