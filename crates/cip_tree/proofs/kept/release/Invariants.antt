use Rattle.std.proofs.Common.{IfSome, ◌≡◌}
use Rattle.std.specs.Prelude.{ℕ, Option}
use Rattle.slab.specs.Slab.{slab_len}
use Rattle.cip_tree.specs.Slots.{Slots, IsReleased, IsUnused, IsKeptBut}
use Rattle.cip_tree.proofs.kept.release.Given as goal

pub record Releasing (first now : Slots) (place : ℕ) (next : Option ℕ) (had has : ℕ) : Type 0 where
  pub slots : IsReleased first now place
  pub kept : IsKeptBut next now
  pub unused : IfSome next (IsUnused now)
  pub capacity : has ≡ had

abbrev pub invariant-loop-next : goal.invariant-loop-next
invariant-loop-next l = Releasing l.fn.kept.slots l.kept.slots l.fn.place l.next l.fn.kept.capacity l.kept.capacity

abbrev pub decreases-loop-next : goal.decreases-loop-next
decreases-loop-next l = slab_len l.kept
