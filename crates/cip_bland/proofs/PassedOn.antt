-- Lemmas of crates below, for those above.
pub use Rattle.cip_bland.proofs.First.{first-size, first-stand}
