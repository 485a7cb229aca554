-- Lemmas of crates below, for those above.
pub use Rattle.cip_search.proofs.Returning.{pair_way_back}
