mod Prelude
pub mod KeptKeys
pub mod Levels
mod RulesRead
mod Begun
mod LinesRead
mod RecordsWritten
pub mod LinesCut
pub mod Runs
mod Complete
