mod Prelude
mod Printing
mod Magnitudes
mod Building
mod ReadBack
mod LaidTrees
mod Parsing
mod FirstNumbers
mod ShortNumbers
mod ReadTexts
mod NumberPieces
mod KeptNumbers
pub mod OneText
