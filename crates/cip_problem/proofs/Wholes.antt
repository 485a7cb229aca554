-- Lemmas on `Wholes`.
pub mod Counts
