mod Prelude
pub mod FilePaths
mod LastPart
mod LastName
mod BelowPaths
