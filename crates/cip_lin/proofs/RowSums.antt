-- Lemmas on `RowSums`.
pub mod ActivityValue
