pub mod Numbers
pub mod Requests
pub mod Stream
pub mod Paths
pub mod Held
pub mod Answers
pub mod Words
pub mod Examples
