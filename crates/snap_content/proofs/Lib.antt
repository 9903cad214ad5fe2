mod Prelude
pub mod Views
pub mod Ascii
pub mod Ends
pub mod PlainMade
pub mod Ordered
pub mod SameTrees
pub mod Rewrapped
pub mod Booleans
pub mod BeforeRest
pub mod DictMade
pub mod Joined
mod Rearrangements
pub mod KeyOrdered
mod OneOrder
mod Settled
mod Visits
mod ListOrder
pub mod WalkTurns
mod FirstByte
