pub mod Asked
pub mod Unused
pub mod Lines
pub mod Stops
pub mod Found
pub mod Runs
pub mod Ends
