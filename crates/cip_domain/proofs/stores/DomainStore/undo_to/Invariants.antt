use Rattle.std.proofs.Common.{ℕ, ◌≡◌, ◌+◌, ◌≤◌, length, take}
use Rattle.cip_domain.specs.Domain.{Domain, regions}
use Rattle.cip_domain.proofs.stores.DomainStore.undo_to.Given as goal

-- the regions so far are the first of those at the start, and the room of the rest is free
pub record Undone (first now : Domain) (mark : ℕ) : Type 0 where
  pub held : mark ≤ length now.before
  pub regions_are : regions now ≡ take (length now.before + 1) (regions first)
  pub room : now.spare + length now.before ≡ first.spare + length first.before

abbrev pub invariant-loop-mark : goal.invariant-loop-mark
invariant-loop-mark l = Undone l.initial.self l.self l.mark-inside.changes

abbrev pub decreases-loop-mark : goal.decreases-loop-mark
decreases-loop-mark l = length l.self.before
