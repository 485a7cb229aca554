-- Lemmas of crates below, for those above.
pub use Rattle.cip_rational.proofs.Comparisons.{eq_by_cmp-compare, is_le-compare, is_lt-compare}
pub use Rattle.cip_rational.proofs.Rational.Ring.{+ℚ-zero, +ℚ_assoc, zero-+ℚ}
