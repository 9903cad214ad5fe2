pub mod Keys
pub mod Kinds
pub mod State
pub mod Fetching
pub mod Sound
pub mod Scan
pub mod Owed
