-- Lemmas on `Meaning`.
pub mod BoxBound
pub mod Point
pub mod Ray
