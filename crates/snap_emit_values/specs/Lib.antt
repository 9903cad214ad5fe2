pub mod Shape
pub mod Places
pub mod Columns
pub mod Emitted
pub mod Document
pub mod Emitter
pub mod FromContent
pub mod Nodes
