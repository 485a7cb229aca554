pub mod Changes
pub mod Domain
pub mod Halves
pub mod Narrowing
pub mod Trail
pub use Rattle.cip_lin.specs.ChoiceParts
pub use Rattle.cip_lin.specs.declared.sides.Side
