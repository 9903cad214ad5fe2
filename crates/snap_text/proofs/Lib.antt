mod Prelude
mod InlineLaws
mod Shown
pub mod Trimming
pub mod NormalForms
pub mod OlderForms
pub mod Agreeing
