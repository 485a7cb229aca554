-- What the tree of one open node begins with.
use Rattle.std.specs.Prelude.{◌≡◌, ◌≢◌, ℕ, ◌-◌, ◌≤◌, [], ◌∷◌, Option, None, Some, vec_len, vec_capacity}
use Rattle.cip_rational.specs.Rational.{ℚ}
use Rattle.cip_domain.specs.Changes.{Region}
use Rattle.cip_tree.specs.Slots.{slot_at, open_slot}
use Rattle.cip_tree.specs.declared.trees.Started.{Started}

-- the root is kept and waits, and nothing else; there is room to park it and to log it, and its region is in work
pub record IsStarted (root : Region) (bound : Option ℚ) (parts : Started) : Type 0 where
  pub kept : slot_at parts.rooted.kept.slots parts.rooted.place ≡ Some (open_slot 0 None)
  pub others : (other : ℕ) → other ≢ parts.rooted.place → slot_at parts.rooted.kept.slots other ≡ None
  pub queue : parts.queue.nodes ≡ record { bound = bound; id = 0; place = parts.rooted.place } ∷ []
  pub parked : parts.parked.items ≡ []
  pub parked_room : 1 ≤ vec_capacity parts.parked - vec_len parts.parked
  pub log : parts.log.items ≡ []
  pub log_room : 1 ≤ vec_capacity parts.log - vec_len parts.log
  pub work : parts.work ≡ root
