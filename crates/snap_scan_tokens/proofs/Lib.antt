mod Prelude
pub mod Cuts
pub mod Places
pub mod Empties
pub mod Pieces
pub mod Folds
pub mod Plains
pub mod Singles
pub mod Doubles
pub mod EitherQuotes
pub mod Explained
pub mod Backslashes
mod Nuls
