mod Prelude
pub mod Behind
pub mod Runs
pub mod Blanks
pub mod Collections
pub mod Trees
pub mod Within
pub mod Accepted
pub mod Calls
pub mod Kept
pub mod OneLine
