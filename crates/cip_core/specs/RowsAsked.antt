-- What asking for a row comes to.
use Rattle.std.specs.Prelude.{◌≡◌, Bool, List, Ok, Err, Result, if◌then◌else◌}
use Rattle.cip_problem.specs.Program.{Sides}
use Rattle.cip_problem.specs.WellFormed.{columns}
use Rattle.cip_problem.specs.Cuts.{row_of}
use Rattle.cip_problem.specs.Aggregate.{Inequality}
use Rattle.cip_lin.specs.declared.combos.Combo.{Combo}
use Rattle.cip_cert.specs.Checks.{derived}
use Rattle.cip_cert.specs.Lent.{multiples_of}
use Rattle.cip_cert.specs.Resting.{rests_on_cutoff}
use Rattle.cip_cert.specs.declared.faults.CutFault.{CutFault}
use Rattle.cip_rows.specs.Adding.{IsAdded}
use Rattle.cip_rows.specs.declared.pools.Added.{Added}
use Rattle.cip_core.specs.CoreStates.{CoreState, reduced_of, all_lent}
use Rattle.cip_core.specs.declared.adding.Asked.{Asked}
use Rattle.cip_core.specs.declared.adding.Asked.TheVariants.{Told, Refused}

-- the box in which a row is derived, and which is its scope then: that in work, or the root's
abbrev pub scope_of : CoreState → Bool → List Sides
scope_of core local = if local then core.tree.work.box else (reduced_of core).bounds

-- what the check of a combination comes to there
abbrev pub derived_in : CoreState → Combo → Bool → Bool → Result Inequality CutFault
derived_in core combo round local =
    derived (all_lent core) (reduced_of core).integral (scope_of core local) (columns (reduced_of core))
    (multiples_of combo) round

-- it cites the cutoff row, or a row that rests on it
abbrev pub rests_in : CoreState → Combo → Bool
rests_in core combo = rests_on_cutoff core.pool.rows combo.rows.items

-- the check accepts it, and its row was added with that scope, or wasn't
pub record IsTold (old new : CoreState) (combo : Combo) (round local : Bool) (added : Added) : Type 0 where
  pub row : Inequality
  pub accepted : derived_in old combo round local ≡ Ok row
  pub is_added : IsAdded old.pool (row_of row) (scope_of old local) (rests_in old combo) new.pool added

-- the check refuses it, and nothing has changed
pub record IsRefused (old new : CoreState) (combo : Combo) (round local : Bool) (fault : CutFault) : Type 0 where
  pub refused : derived_in old combo round local ≡ Err fault
  pub same : new ≡ old

abbrev pub IsAsked : CoreState → CoreState → Combo → (round local : Bool) → Asked → Type 0
IsAsked old new combo round local (Told added) = IsTold old new combo round local added
IsAsked old new combo round local (Refused fault) = IsRefused old new combo round local fault
