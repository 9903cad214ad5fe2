pub mod Normal
pub mod Lines
pub mod Contents
pub mod Legacy
