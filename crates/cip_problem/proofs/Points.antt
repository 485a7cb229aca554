-- Lemmas on `Points`.
pub mod AtPlaces
