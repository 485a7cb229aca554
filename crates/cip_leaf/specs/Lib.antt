pub mod Building
pub mod FirstPlaces
pub mod LeafAnswers
pub mod Parts
