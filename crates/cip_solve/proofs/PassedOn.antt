-- Lemmas of crates below, for those above.
pub use Rattle.cip_calls.proofs.PassedOn.{near_columns}
pub use Rattle.cip_solve.proofs.SetAside.{still_few}
