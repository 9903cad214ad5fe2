pub mod Pending
pub mod Batches
pub mod Record
pub mod Saved
pub mod Told
pub mod Parts
pub mod Loaded
pub mod Back
