mod Prelude
mod Steps
mod Asked
mod Turns
mod Fresh
mod Limits
mod Shown
