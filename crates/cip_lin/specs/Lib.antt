pub mod ChoiceKinds
pub mod ChoiceParts
pub mod MetSides
pub mod RowFaults
pub mod RowSums
pub use Rattle.cip_frac.specs.Outcomes
pub use Rattle.cip_frac.specs.declared.operations.Wide
