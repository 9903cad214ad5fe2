mod Prelude
pub mod WholeStreams
pub mod Endings
pub mod Running
pub mod Naming
pub mod Signs
pub mod Standing
pub mod Openings
pub mod Taken
pub mod TreeRuns
pub mod Giving
pub mod Following
pub mod Failing
