pub mod Reasons
pub mod Ends
