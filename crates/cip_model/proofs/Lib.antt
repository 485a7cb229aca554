pub mod Meaning
pub mod NamePieces
pub mod NamePlaces
pub mod NameKeys
pub mod SmallPrograms
pub mod GroupLaws
