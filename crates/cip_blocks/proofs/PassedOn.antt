-- Lemmas of crates below, for those above.
pub use Rattle.cip_text.proofs.Begun.{begun, begun_or_spent}
