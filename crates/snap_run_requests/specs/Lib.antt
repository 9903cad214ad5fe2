pub mod Keys
pub mod Faults
pub mod Requests
pub mod RequestOf
pub mod Heads
pub mod Cut
