mod Prelude
pub mod Reading
pub mod Beginnings
pub mod Growing
pub mod Stepping
pub mod Ending
pub mod Possible
pub mod Soundness
pub mod Sounding
pub mod Founding
pub mod Order
pub mod Fronts
pub mod Owing
