mod Prelude
mod Asking
pub mod Entries
mod Joined
mod LastMark
mod Folders
pub mod Unchanged
mod Parts
pub mod Standing
pub mod Leaving
