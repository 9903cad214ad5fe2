mod Prelude
mod RedactionLists
pub mod PlainRedactions
mod CopiedLists
