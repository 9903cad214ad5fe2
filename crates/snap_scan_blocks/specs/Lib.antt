pub mod Header
pub mod Lines
pub mod Block
pub mod Steps
