-- Lemmas of crates below, for those above.
pub use Rattle.cip_calls.proofs.ComingBack.{back_long}
pub use Rattle.cip_calls.proofs.Noting.{come_further}
pub use Rattle.cip_calls.proofs.Pools.{cuts_not_sides, more_none, more_same, points_not_sides, quiet_left}
pub use Rattle.cip_calls.proofs.Serving.{accepted_open, between, used_again, used_first, used_further, used_none}
pub use Rattle.cip_core.proofs.CoreSteps.{with_tree, work_long}
pub use Rattle.cip_core.proofs.NearColumns.{near_columns}
pub use Rattle.cip_core.proofs.Relations.{later_at_itself, later_further, narrower_further, narrower_itself, no_dearer_trans}
