mod Prelude
mod Cuts
mod FirstTold
