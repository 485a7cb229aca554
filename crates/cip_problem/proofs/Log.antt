-- Lemmas on `Log`.
pub mod Entering
pub mod Given
pub mod Halves
pub mod Length
pub mod SameHalves
