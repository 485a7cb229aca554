-- Lemmas of crates below, for those above.
pub use Rattle.cip_frac.proofs.Outcomes.{product_added-value}
