mod Prelude
pub mod Columned
pub mod PlainShapes
pub mod Contents
pub mod Begun
pub mod Spaces
pub mod Quoting
pub mod Trees
pub mod Walked
mod Sizes
mod Within
pub mod Shifting
mod Bytes
mod LineEnds
