-- Laws of the check, each as one statement: functions of `src/laws.rt` have them as contracts.
use Rattle.std.specs.Prelude.{◌≡◌, ◌↔◌, ℕ, ◌≤◌, ◌<◌, Bool, List, [], false, length, Option, None, Some, IfOk, if◌then◌else◌}
use Rattle.cip_rational.specs.Rational.{ℚ}
use Rattle.cip_problem.specs.Program.{Sides, Program}
use Rattle.cip_problem.specs.Activity.{value_at}
use Rattle.cip_problem.specs.Aggregate.{Inequality, bound_of, only, implied_sides}
use Rattle.cip_problem.specs.Improving.{IsValid}
use Rattle.cip_problem.specs.Cuts.{CanRound, rounded_low, rounded_high}
use Rattle.cip_cert.specs.Lent.{Lent, Fits, Multiples}
use Rattle.cip_cert.specs.Checks.{chain, aggregate_of, derived, first_stop, bound_from, rests_from, implied_low, implied_high}
use Rattle.cip_cert.specs.Follows.{RowFollows, IsSum}
use Rattle.cip_cert.specs.Resting.{rests_on_cutoff, lent_released, valid_below, IsLentOf}

-- the row of a combination that is accepted is the sum of parts that hold where the rows hold
abbrev pub AggregatesAreSums : Type 0
AggregatesAreSums =
    (lent : Lent) (box : List Sides) (columns : ℕ) (combo : Multiples)
    → Fits (length box) lent → length box ≤ columns
    → IfOk (aggregate_of lent box columns combo) (IsSum lent box columns)

-- the bounds that are computed are those of the inequality: at costs, at costs 0, and at its own coefficient on one
-- column alone
pub record BoundsAreThose : Type 0 where
  pub at_costs : (row : Inequality) (costs : List ℚ) (box : List Sides)
      → length costs ≡ length box → length box ≤ length row.coefficients
      → IfOk (bound_from 0 row.least costs row.coefficients box) (λ b. bound_of row costs box ≡ Some b)
  pub at_zero : (row : Inequality) (box : List Sides)
      → length box ≤ length row.coefficients
      → IfOk (rests_from None 0 row.least row.coefficients box) (λ b. bound_of row [] box ≡ Some b)
  pub at_one : (row : Inequality) (box : List Sides) (column : ℕ)
      → length box ≤ length row.coefficients → column < length box
      → IfOk (rests_from (Some column) 0 row.least row.coefficients box)
      (λ b. bound_of row (only column (value_at row.coefficients column)) box ≡ Some b)

-- a row is rounded exactly where each of its coefficients is whole and, unless it is 0, stands on a whole column
abbrev pub RowsAreRoundedWhereTheyCan : Type 0
RowsAreRoundedWhereTheyCan =
    (integral : List Bool) (ds : List ℚ) → length integral ≡ length ds
    → (first_stop 0 integral ds ≡ None) ↔ CanRound integral ds

-- a side, rounded inward where the column is whole
abbrev pub inward_low : Bool → Option ℚ → Option ℚ
inward_low whole side = if whole then rounded_low side else side

abbrev pub inward_high : Bool → Option ℚ → Option ℚ
inward_high whole side = if whole then rounded_high side else side

-- the single bounds that are computed are the sides that the inequality implies for the column, rounded inward where
-- it is whole
pub record SidesAreThose : Type 0 where
  pub low : (row : Inequality) (box : List Sides) (column : ℕ) (whole : Bool)
      → length box ≤ length row.coefficients → column < length box
      → IfOk (chain (rests_from (Some column) 0 row.least row.coefficients box)
      (implied_low column whole (value_at row.coefficients column)))
      (λ side. side ≡ inward_low whole (implied_sides row box column).low)
  pub high : (row : Inequality) (box : List Sides) (column : ℕ) (whole : Bool)
      → length box ≤ length row.coefficients → column < length box
      → IfOk (chain (rests_from (Some column) 0 row.least row.coefficients box)
      (implied_high column whole (value_at row.coefficients column)))
      (λ side. side ≡ inward_high whole (implied_sides row box column).high)

-- what doesn't rest on the cutoff row: its sum is the same without that row and without the rows that rest, so it
-- follows from the rows that are left; and it is valid below each cost, where what rests is so below the cost held
pub record WhatDoesNotRestIsValid : Type 0 where
  pub same : (lent : Lent) (box : List Sides) (columns : ℕ) (combo : Multiples)
      → rests_on_cutoff lent.pool combo.rows ≡ false
      → aggregate_of (lent_released lent) box columns combo ≡ aggregate_of lent box columns combo
  pub follows : (lent : Lent) (integral : List Bool) (box : List Sides) (columns : ℕ) (combo : Multiples)
      (round : Bool) → Fits (length box) lent → length box ≤ columns
      → rests_on_cutoff lent.pool combo.rows ≡ false
      → IfOk (derived lent integral box columns combo round) (RowFollows (lent_released lent) integral box round)
  pub valid : (program : Program) (held : Option ℚ) (lent : Lent) (box : List Sides) (columns : ℕ)
      (combo : Multiples) (round : Bool) → Fits (length box) lent → length box ≤ columns
      → IsLentOf program held box lent
      → IfOk (derived lent program.integral box columns combo round)
      (IsValid program (valid_below held (rests_on_cutoff lent.pool combo.rows)) box)
  pub left : (program : Program) (held : Option ℚ) (box : List Sides) (lent : Lent)
      → IsLentOf program held box lent → IsLentOf program None box (lent_released lent)
