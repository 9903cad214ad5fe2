mod Prelude
pub mod Lookups
pub mod Made
