-- Linear programs that are solved.
use Rattle.std.specs.Prelude.{ℕ, ◌+◌, ◌<◌, ◌^◌, List, ◌++◌, map, length}
use Rattle.std.specs.Borrow.{Bor}
use Rattle.cip_problem.specs.Program.{Row}
use Rattle.cip_problem.specs.LinearProgram.{LinearProgram, IsProper}

-- rows, and behind them others, each of which is lent
abbrev pub joined : List Row → List (Bor Row) → List Row
joined rows others = rows ++ map (λ row. row.now) others

-- the columns and the rows
abbrev pub variables : LinearProgram → ℕ
variables program = length program.bounds + length program.rows

-- each column has a cost, rows stand on columns of the program, and there are fewer than 2^32 columns and rows
pub record IsSolvable (program : LinearProgram) : Type 0 where
  pub proper : IsProper program
  pub few : variables program < 2 ^ 32
