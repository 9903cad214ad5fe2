pub mod Said
pub mod Numbers
pub mod Words
pub mod Elsewhere
pub mod Parts
pub mod Found
