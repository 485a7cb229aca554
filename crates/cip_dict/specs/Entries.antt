-- The linear program of a list of entries, each a row, a column and a coefficient, and why it has no first state.
use Rattle.std.specs.Prelude.{◌≡◌, ℕ, ◌<◌, ◌==◌, ◌&&◌, List, [], ◌∷◌, Some, if◌then◌else◌, All, ⊤}
use Rattle.cip_rational.specs.Rational.{ℚ, zeroℚ}
use Rattle.cip_problem.specs.Program.{Sides}
use Rattle.cip_problem.specs.Activity.{value_at}
use Rattle.cip_bland.specs.Operations.{Placed, first_overflow}
use Rattle.cip_bland.specs.FirstState.{System, first_operations}
use Rattle.cip_dict.specs.declared.fault.FirstFault.{FirstFault}
use Rattle.cip_dict.specs.declared.fault.FirstFault.TheVariants.{OutOfRange, NoMemory}

-- row, column and coefficient
abbrev pub Entry : Type 0
Entry = ℕ × ℕ × ℚ

-- the coefficient of a row and a column after more entries, of which the last that names both counts
abbrev pub entry_from : ℚ → List Entry → ℕ → ℕ → ℚ
entry_from q [] r k = q
entry_from q (e ∷ es) r k = entry_from (if e.0 == r && e.1 == k then e.2 else q) es r k

-- each entry is of one of so many rows and columns
abbrev pub AreWithin : ℕ → ℕ → List Entry → Type 0
AreWithin rows columns entries = All (λ e. (e.0 < rows) × (e.1 < columns)) entries

-- the linear program with these entries
abbrev pub system_in : List Entry → List Sides → List Sides → List ℚ → System
system_in entries rows columns costs = record {
  columns = columns;
  rows = rows;
  coefficient = entry_from zeroℚ entries;
  costs = value_at costs;
}

-- why operations did not come to their end: the first that overflows is formed there, or memory was refused
abbrev pub IsRowFault : List Placed → FirstFault → Type 0
IsRowFault operations (OutOfRange place) = first_overflow operations ≡ Some place
IsRowFault operations NoMemory = ⊤

-- why it has no first state: the first operation that overflows is formed there, or memory was refused
abbrev pub IsFirstFault : System → FirstFault → Type 0
IsFirstFault p fault = IsRowFault (first_operations p) fault
