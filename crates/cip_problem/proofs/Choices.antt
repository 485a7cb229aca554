-- Lemmas on `Choices`.
pub mod Decided
pub mod Meeting
