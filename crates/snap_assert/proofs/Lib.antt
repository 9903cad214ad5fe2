mod Prelude
mod Below
mod Saved
mod HeldTexts
mod Judgements
mod StrayPaths
mod Removals
mod Covering
mod Writing
mod Halting
mod LiteralHalting
mod Extensions
pub mod Keeping
mod ApprovedPaths
mod Looking
mod Settling
mod Answering
mod OpenBlocks
mod Innermost
mod Counters
mod Forgetting
mod LiteralRefusals
mod LiteralRecords
pub mod Refusals
mod Printing
mod NameSteps
pub mod GivenNames
mod Calls
mod Foreseeing
mod SameInfo
