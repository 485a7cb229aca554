pub mod FractionFault
pub mod LowestTerms
pub mod Order
pub mod Outcomes
pub mod Quarters
pub mod SignedBits
pub use Rattle.cip_rational.specs.Range
pub use Rattle.cip_rational.specs.Rational
