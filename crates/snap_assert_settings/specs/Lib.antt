pub mod Redactions
pub mod Settings
pub mod Replaced
pub mod Copies
