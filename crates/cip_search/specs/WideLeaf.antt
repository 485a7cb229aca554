-- When a leaf is wide, and by what this is shown:
--     1   a fixed part of a row or of the cost, or what a side leaves of it, overflows
--     2   a value of the first state of the leaf's program overflows
--     3   the list of moves by Bland's rule from that state ends in a move out of range
--     4   that list ends in an optimum or a ray, and a sum of the test of its point, or of its ray, overflows
-- Case 3 is shown by the number of moves, which counts the one that is out of range; the others by the row or the cost.
-- All sums go by rising column, each product before its sum.
use Rattle.std.specs.Prelude.{◌≡◌, ◌⊎◌, ℕ, ◌+◌, ◌<◌, List, [], map, length, None, Some, slice_get}
use Rattle.cip_rational.specs.Rational.{ℚ, zeroℚ}
use Rattle.cip_problem.specs.Program.{Row, Program}
use Rattle.cip_problem.specs.LinearProgram.{LinearProgram}
use Rattle.cip_bland.specs.Operations.{first_overflow, value_place}
use Rattle.cip_bland.specs.FirstState.{first_operations}
use Rattle.cip_bland.specs.ProgramState.{system_of}
use Rattle.cip_bland.specs.declared.moves.Move.{Move}
use Rattle.cip_bland.specs.declared.places.Line.TheVariants as line
use Rattle.cip_bland.specs.declared.places.EntryPlace as dictionary
use Rattle.cip_bland.specs.EndAnswers.{Answer, Optimal, NoPoint, Unbounded, OutOfRange, LimitReached}
use Rattle.cip_bland.specs.NoRepeat.{whole_answer}
use Rattle.cip_search.specs.Wide.{Place, InRow, InCost, row_part, cost_part, IsWideAt}
use Rattle.cip_search.specs.LeafProgram.{merged, program_of_leaf}

-- by what a wide leaf is shown: the row or the cost that overflows, or how many moves come to one out of range
pub data Shown : Type 0 where
  AtPlace : Place → Shown
  AfterMoves : ℕ → Shown

-- ---- sums at a point or along a ray

-- the sum of the row of this number overflows, begun at 0
pub record RowSumOverflows (program : Program) (point : List ℚ) (number : ℕ) : Type 0 where
  pub row : Row
  pub is_row : slice_get program.rows number ≡ Some row
  pub overflows : row_part zeroℚ row.terms (map Some point) ≡ None

-- the sum of a row, or that of the cost, begun there, overflows
abbrev pub SumOverflows : Program → ℚ → List ℚ → Place → Type 0
SumOverflows program start point (InRow number) = RowSumOverflows program point number
SumOverflows program start point InCost = cost_part start program.costs (map Some point) ≡ None

-- ---- cases 2 to 4

-- where the value of a row or of the cost stands in a state
abbrev pub state_place : LinearProgram → Place → dictionary.EntryPlace
state_place linear (InRow number) = value_place (line.Row (length linear.bounds + number))
state_place linear InCost = value_place line.Cost

-- the first operation of the first state that overflows is one of this value
abbrev pub FirstValueOverflows : LinearProgram → Place → Type 0
FirstValueOverflows linear place =
    first_overflow (first_operations (system_of linear)) ≡ Some (state_place linear place)

-- the list from the first state has so many moves, the last of which is out of range
pub record MovesOverflow (linear : LinearProgram) (number : ℕ) : Type 0 where
  pub moves : List Move
  pub is_answer : whole_answer linear ≡ OutOfRange moves
  pub count : length moves ≡ number
  pub some : 0 < number

-- a sum of the test of the point or ray in which the list ends overflows there
abbrev pub EndOverflows : Program → List ℚ → Place → Answer → Type 0
EndOverflows program leaf place (Optimal others certificate cost) =
    SumOverflows program program.constant (merged program.integral leaf others) place
EndOverflows program leaf place (NoPoint certificate) = ⊥
EndOverflows program leaf place (Unbounded others direction) =
    SumOverflows program program.constant (merged program.integral leaf others) place
    ⊎ SumOverflows program zeroℚ (merged program.integral [] direction) place
EndOverflows program leaf place (OutOfRange moves) = ⊥
EndOverflows program leaf place LimitReached = ⊥

-- ---- wide leaves

-- a leaf is wide, which is shown by this
abbrev pub IsWideBy : Program → List ℚ → Shown → Type 0
IsWideBy program leaf (AtPlace place) =
    IsWideAt program leaf place
    ⊎ (FirstValueOverflows (program_of_leaf program leaf) place
    ⊎ EndOverflows program leaf place (whole_answer (program_of_leaf program leaf)))
IsWideBy program leaf (AfterMoves number) = MovesOverflow (program_of_leaf program leaf) number

-- a leaf is wide
abbrev pub IsWideLeaf : Program → List ℚ → Type 0
IsWideLeaf program leaf = (shown : Shown) × IsWideBy program leaf shown
