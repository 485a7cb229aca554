-- Lemmas of crates below, for those above.
pub use Rattle.cip_problem.proofs.Box.SideTests.{between_of_test, test_of_between}
pub use Rattle.cip_problem.proofs.Points.AtPlaces.{in_box_at, satisfied_at}
