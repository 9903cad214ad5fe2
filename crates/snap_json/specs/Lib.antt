pub mod Strings
pub mod Layout
pub mod JsonPlain
pub mod JsonText
pub mod Written
pub mod Walked
pub mod Within
pub mod OneLine
