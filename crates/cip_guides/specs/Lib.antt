pub mod FullGuesses
pub mod PointSplits
