-- Lemmas on `Range`.
pub mod InRange
