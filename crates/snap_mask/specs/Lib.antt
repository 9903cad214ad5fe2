pub mod Rules
pub mod Beginning
pub mod Records
pub mod Masked
pub mod Written
pub mod Lined
pub mod Describe
pub mod Program
