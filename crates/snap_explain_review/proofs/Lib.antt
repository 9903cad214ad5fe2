mod Prelude
mod Endings
