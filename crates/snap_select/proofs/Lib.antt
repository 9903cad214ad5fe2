mod Prelude
pub mod PieceFacts
pub mod QuotedText
pub mod Lasts
mod StableSorts
mod ListsInOrder
pub mod SortedTrees
pub mod Tokens
pub mod Walks
pub mod Places
pub mod Starts
pub mod Fitting
pub mod Outcomes
pub mod LeastFaults
pub mod WorkedExamples
pub mod Oversize
pub mod Readers
pub mod Bounds
pub mod ShownPaths
pub mod OneRedacted
mod Answered
mod Reached
mod RedactedLists
mod RedactedParts
mod QuietTrees
