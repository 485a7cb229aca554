pub mod LeafLines
pub mod SelfLines
pub mod ToldSides
pub mod TraceLemmas
pub mod WritingLemmas
