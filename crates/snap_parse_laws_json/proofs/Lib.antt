mod Prelude
pub mod Standing
pub mod Signs
pub mod Escapes
pub mod Words
pub mod Scalars
pub mod Values
pub mod Nuls
pub mod Texts
pub mod Events
