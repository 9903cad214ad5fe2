mod Prelude
mod Pieces
mod LineEnds
pub mod Bodies
pub mod Splitting
pub mod Told
pub mod Images
pub mod Agreeing
pub mod Headers
mod LegacyFields
pub mod MetaTrees
mod Outcomes
pub mod Readings
mod NormalBodies
mod ReadBack
mod Relatives
pub mod Lists
pub mod Written
pub mod Saved
mod Besides
