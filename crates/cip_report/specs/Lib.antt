pub mod Answers
pub mod Checks
pub mod Drawn
pub mod Traces
pub mod Writing
pub use Rattle.cip_leaf.specs.LeafAnswers
pub use Rattle.cip_leaf.specs.declared.answers.Shown
