pub mod Reading
pub mod Anchor
pub mod Octets
pub mod Characters
pub mod Tag
pub mod Directive
