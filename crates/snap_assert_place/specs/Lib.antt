pub mod Place
pub mod SnapshotPath
pub mod Below
pub mod Names
