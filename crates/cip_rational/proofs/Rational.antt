-- Lemmas on `Rational`.
pub mod Compare
pub mod Extremes
pub mod Inverse
pub mod Lowest
pub mod Monotone
pub mod Order
pub mod Ratio
pub mod Ring
pub mod Rounding
pub mod Truncated
pub mod Whole
