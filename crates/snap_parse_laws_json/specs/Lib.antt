pub mod Bounded
pub mod Tokens
pub mod Examples
pub mod Nodes
