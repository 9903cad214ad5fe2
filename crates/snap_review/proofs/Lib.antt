mod Prelude
mod Marks
mod Puttings
mod Choosing
mod Readings
mod Stopping
mod FilePlanning
mod Planning
pub mod Foreseeing
mod OnePatch
mod RecordPaths
