pub mod Missed
pub mod Twice
