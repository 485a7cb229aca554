use Rattle.std.proofs.Common.{take, ◌≡◌}
use Rattle.std.specs.Prelude.{ℕ, List}
use Rattle.cip_rational.specs.Rational.{ℚ}
use Rattle.cip_tree.specs.declared.queue.OpenNode.{OpenNode}
use Rattle.cip_tree.specs.Slots.{Slots, AreSoundSlots}
use Rattle.cip_tree.specs.Freed.{dearer, AreReleased}
use Rattle.cip_tree.proofs.closed.release_from.Given as goal

pub record Freeing (first now : Slots) (cost : ℚ) (told : List OpenNode) (had has : ℕ) : Type 0 where
  pub slots : AreReleased first now (dearer cost told)
  pub kept : AreSoundSlots now
  pub capacity : has ≡ had

abbrev pub invariant-loop-node : goal.invariant-loop-node
invariant-loop-node l = Freeing l.fn.kept.slots l.kept.slots l.cost (take l.node-index l.nodes) l.fn.kept.capacity l.kept.capacity
