pub mod Fresh
pub mod Examples
