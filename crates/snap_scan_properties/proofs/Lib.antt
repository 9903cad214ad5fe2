mod Prelude
pub mod Taken
pub mod Encoded
pub mod Spelled
pub mod Uris
pub mod Answered
pub mod Digits
pub mod Names
