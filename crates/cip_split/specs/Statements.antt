-- The law of split cuts as one statement: the function of `src/laws.rt` has it as its contract.
use Rattle.std.specs.Prelude.{◌≡◌, ℕ, ◌≤◌, Bool, false, List, length, Option, IfOk}
use Rattle.cip_rational.specs.Rational.{ℚ}
use Rattle.cip_problem.specs.Program.{Sides, Program}
use Rattle.cip_problem.specs.Improving.{IsValid}
use Rattle.cip_cert.specs.declared.splits.SplitCut.{SplitCut}
use Rattle.cip_cert.specs.Lent.{Lent, Fits}
use Rattle.cip_cert.specs.Resting.{lent_released, valid_below, IsLentOf}
use Rattle.cip_split.specs.SplitChecks.{split_of}
use Rattle.cip_split.specs.SplitMeaning.{IsRowOf, split_rests}

-- the row of a split cut that is accepted is the split row of what its combinations add up to, so it is valid: below
-- the cost held, or, where the cut doesn't rest on the cutoff row, below each
pub record SplitCutsAreSplitRows : Type 0 where
  pub split : (lent : Lent) (integral : List Bool) (box : List Sides) (columns : ℕ) (cut : SplitCut)
      → Fits (length box) lent → length box ≤ columns → length integral ≡ length box
      → IfOk (split_of lent integral box columns cut) (IsRowOf lent integral box columns cut)
  pub same : (lent : Lent) (integral : List Bool) (box : List Sides) (columns : ℕ) (cut : SplitCut)
      → split_rests lent.pool cut ≡ false
      → split_of (lent_released lent) integral box columns cut ≡ split_of lent integral box columns cut
  pub valid : (program : Program) (held : Option ℚ) (lent : Lent) (box : List Sides) (columns : ℕ) (cut : SplitCut)
      → Fits (length box) lent → length box ≤ columns → length program.integral ≡ length box
      → IsLentOf program held box lent
      → IfOk (split_of lent program.integral box columns cut)
      (IsValid program (valid_below held (split_rests lent.pool cut)) box)
