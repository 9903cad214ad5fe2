pub mod Paths
pub mod Names
