-- The law of pools as one statement: the function of `src/laws.rt` has it as its contract.
use Rattle.std.specs.Prelude.{◌≡◌, ℕ, ◌≤◌, Bool, List, length, drop, Option, Ok}
use Rattle.std.specs.List.{filter}
use Rattle.cip_rational.specs.Rational.{ℚ}
use Rattle.cip_problem.specs.Program.{Sides, Row, Program}
use Rattle.cip_problem.specs.Points.{IsFeasible}
use Rattle.cip_cert.specs.Aggregate.{Inequality}
use Rattle.cip_problem.specs.Improving.{IsValidRow, IsNoDearer}
use Rattle.cip_problem.specs.Cuts.{row_of}
use Rattle.cip_cert.specs.declared.rows.PoolRow.{PoolRow}
use Rattle.cip_cert.specs.Lent.{Lent, Fits, Multiples}
use Rattle.cip_cert.specs.Checks.{derived}
use Rattle.cip_cert.specs.Resting.{rests_on_cutoff, released, valid_below, ArePoolRowsValid, IsLentOf}
use Rattle.cip_rows.specs.RowPools.{Pool, with_row}

-- a pool, with a program's rows and a cutoff row, as rows that are lent
abbrev pub lent_with : Program → Pool → Option Row → Lent
lent_with program pool cutoff = record { own = program.rows; pool = pool.rows; cutoff = cutoff }

-- each row of a pool stays valid in its scope, below the cost held where it rests on that, and below each where it
-- doesn't: with a row added that is so, as one that was derived is; without some rows; where what is held gets cheaper;
-- and without those that rest whatever is held then, also for a program with no other feasible points
pub record PoolsStayValid : Type 0 where
  pub more : (program : Program) (held : Option ℚ) (pool : Pool) (row : Row) (scope : List Sides) (rests : Bool)
      → ArePoolRowsValid program held pool.rows → IsValidRow program (valid_below held rests) scope row
      → ArePoolRowsValid program held (with_row pool row scope rests).rows
  pub derived : (program : Program) (held : Option ℚ) (pool : Pool) (cutoff : Option Row) (box : List Sides)
      (columns : ℕ) (combo : Multiples) (round : Bool) (row : Inequality)
      → Fits (length box) (lent_with program pool cutoff) → length box ≤ columns
      → IsLentOf program held box (lent_with program pool cutoff)
      → derived (lent_with program pool cutoff) program.integral box columns combo round ≡ Ok row
      → ArePoolRowsValid program held
      (with_row pool (row_of row) box (rests_on_cutoff pool.rows combo.rows)).rows
  pub fewer : (program : Program) (held : Option ℚ) (rows : List PoolRow) (stays : PoolRow → Bool)
      → ArePoolRowsValid program held rows → ArePoolRowsValid program held (filter stays rows)
  pub last : (program : Program) (held : Option ℚ) (rows : List PoolRow) (n : ℕ)
      → ArePoolRowsValid program held rows → ArePoolRowsValid program held (drop n rows)
  pub later : (program : Program) (now before : Option ℚ) (rows : List PoolRow)
      → IsNoDearer now before → ArePoolRowsValid program before rows → ArePoolRowsValid program now rows
  pub released : (program other : Program) (held later : Option ℚ) (rows : List PoolRow)
      → ((point : List ℚ) → IsFeasible other point → IsFeasible program point)
      → ArePoolRowsValid program held rows → ArePoolRowsValid other later (released rows)
