mod Prelude
pub mod Trimming
pub mod Returns
mod Hashed
mod Reading
mod Outcomes
mod LineParts
mod Free
mod Escapes
mod HashEnds
pub mod Meanings
mod LineLeads
mod WellEnded
mod Leads
pub mod InlineLaw
mod Frames
pub mod Written
mod Bytes
mod FrontUnits
pub mod LiteralFronts
