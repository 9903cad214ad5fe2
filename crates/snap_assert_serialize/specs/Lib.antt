pub mod Serialized
