use Rattle.std.proofs.Common.{◌≡◌, ℕ, ◌≤◌, ◌-◌, None, length}
use Rattle.cip_problem.specs.Activity.{value_at}
use Rattle.cip_bland.specs.Tables.{form}
use Rattle.cip_bland.specs.FirstState.{form_operations}
use Rattle.cip_bland.specs.Operations.{first_overflow}
use Rattle.cip_dict.specs.SparseLines.{entry_on, IsPlace}
use Rattle.cip_dict.specs.WholeLines.{over}
use Rattle.cip_dict.proofs.whole_entries.wholes_value.Given as goal

-- up to some variable
abbrev pub invariant-places : goal.invariant-places
invariant-places l =
    (m : ℕ) × (m ≤ l.n) × IsPlace m (over l.below l.wholes) l.place
    × (first_overflow (form_operations l.line m (entry_on (over l.below l.wholes)) (value_at l.values)) ≡ None)
    × (l.total ≡ form m (entry_on (over l.below l.wholes)) (value_at l.values))

abbrev pub decreases-places : goal.decreases-places
decreases-places l = length l.wholes - l.place
