pub mod PlainRead
pub mod Pieces
pub mod Parsed
pub mod Examples
pub mod LayoutTrees
pub mod Spelled
pub mod Built
pub mod Readings
