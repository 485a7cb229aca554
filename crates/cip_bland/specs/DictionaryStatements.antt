-- The main laws, each as one statement: the functions of `src/lib.rt` have them as contracts.
use Rattle.std.specs.Prelude.{◌≡◌, ◌↔◌, ℕ, ◌<◌, List}
use Rattle.cip_rational.specs.Rational.{ℚ}
use Rattle.cip_bland.specs.Tables.{table, form}
use Rattle.cip_bland.specs.Dictionary.{Dictionary, size, cost_entry, Solves, IsConsistent, HasSameSolutions}
use Rattle.cip_bland.specs.Exchange.{exchanged, CanExchange, flipped, CanFlip}
use Rattle.cip_bland.specs.FirstState.{System, columns_of, variables_of, first, AreActivities, extended}
use Rattle.cip_bland.specs.ProgramState.{TellsProgram}
use Rattle.cip_problem.specs.LinearProgram.{LinearProgram, IsProper}
use Rattle.cip_bland.specs.declared.moves.Stand.{Stand}

-- a state is consistent, and has the solutions and the cost of the state before
pub record KeepsSolutions (before later : Dictionary) : Type 0 where
  pub consistent : IsConsistent later
  pub same : HasSameSolutions before later

-- so is the state after an exchange
abbrev pub ExchangesKeep : Type 0
ExchangesKeep =
    (d : Dictionary) (i j : ℕ) (to : Stand) → IsConsistent d → CanExchange d i j to
    → KeepsSolutions d (exchanged d i j to)

-- and the state after a flip
abbrev pub FlipsKeep : Type 0
FlipsKeep = (d : Dictionary) (j : ℕ) → IsConsistent d → CanFlip d j → KeepsSolutions d (flipped d j)

-- what the first state of a linear program says: its solutions are the points with the sums of the rows after them,
-- and its cost is theirs
pub record FirstIsProgram (p : System) : Type 0 where
  pub consistent : IsConsistent (first p)
  pub solutions : (x : ℕ → ℚ) → Solves (first p) x ↔ AreActivities p x
  pub points : (x : List ℚ) → Solves (first p) (extended p x)
  pub extensions : (x : ℕ → ℚ) → Solves (first p) x
      → (v : ℕ) → v < variables_of p → x v ≡ extended p (table (columns_of p) x) v
  pub costs : (x : ℕ → ℚ) → form (size (first p)) (cost_entry (first p)) x ≡ form (columns_of p) p.costs x

-- so it is with every program
abbrev pub FirstStatesTell : Type 0
FirstStatesTell = (p : System) → FirstIsProgram p

-- and the system of a linear program has its activities and its cost as forms
abbrev pub ProgramsAreTold : Type 0
ProgramsAreTold = (program : LinearProgram) → IsProper program → TellsProgram program
