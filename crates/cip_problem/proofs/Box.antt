-- Lemmas on `Box`.
pub mod SideTests
