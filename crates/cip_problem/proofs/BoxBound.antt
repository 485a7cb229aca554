-- Lemmas on `BoxBound`.
pub mod BelowCosts
