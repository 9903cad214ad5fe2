mod Prelude
mod Cutting
mod Keys
mod RedactionsRead
pub mod Requesting
mod PairsFaults
