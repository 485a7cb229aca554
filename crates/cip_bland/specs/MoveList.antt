-- The list of moves by Bland's rule from a state, with a limit of moves. It ends at a state that is an end, or where
-- the limit is reached, or before the first move that has an operation out of range. Of a move by which the cost falls
-- the ways are formed first, by rising number; the first whose length is out of range ends the list, with its move.
-- Where no move may be made any more no way is formed, nor at a state that is an end.
use Rattle.std.specs.Prelude.{ℕ, zero, suc, ◌==◌, Bool, List, [], ◌∷◌, Option, None, Some, is_some, if◌then◌else◌}
use Rattle.cip_bland.specs.Box.{sides_at}
use Rattle.cip_bland.specs.Tables.{least, first_of}
use Rattle.cip_bland.specs.Dictionary.{Dictionary, size, stand, is_basic, value, standing_value}
use Rattle.cip_bland.specs.Exchange.{other_stand, after}
use Rattle.cip_bland.specs.Operations.{Placed, Difference, placed, value_place, first_overflow}
use Rattle.cip_bland.specs.MoveOperations.{first_line, step_operations, move_operations}
use Rattle.cip_bland.specs.declared.moves.Move.{Move}
use Rattle.cip_bland.specs.declared.moves.Move.TheVariants.{Exchange, Flip}
use Rattle.cip_bland.specs.Rule.{Way, way_of, move_by, least_outside, next}
use Rattle.cip_bland.specs.declared.steps.Step.{Step}
use Rattle.cip_bland.specs.declared.steps.Step.TheVariants.{Crossed, Infeasible, Optimum, Ray, Makes}

-- ---- which move is out of range

abbrev pub is_out_of_range : List Placed → Bool
is_out_of_range operations = is_some (first_overflow operations)

-- the operations of the way of j to its own other side: that of a flip
abbrev pub own_way_operations : Dictionary → ℕ → List Placed
own_way_operations d j =
    placed (value_place (first_line (least (size d) (is_basic d))))
    (Difference (standing_value (sides_at d.sides j) (other_stand (stand d j))) (value d j))
    ∷ []

-- the operations of the length of a way: those by which the move forms it
abbrev pub way_operations : Dictionary → ℕ → Way → List Placed
way_operations d j way =
    if way.variable == j then own_way_operations d j else step_operations d way.variable j way.to

-- the move of a way whose length is out of range
abbrev pub wide_way : Dictionary → ℕ → Option Way → Option Move
wide_way d j None = None
wide_way d j (Some way) = if is_out_of_range (way_operations d j way) then Some (move_by j way) else None

-- the move of the first such way, of the numbers below n
abbrev pub first_wide_way : Dictionary → ℕ → ℕ → Option Move
first_wide_way d j zero = None
first_wide_way d j (suc n) = first_of (first_wide_way d j n) (wide_way d j (way_of d j n))

-- the variable that enters, or flips
abbrev pub mover : Move → ℕ
mover (Exchange i j to) = j
mover (Flip j) = j

-- ways are formed only where no variable is outside
abbrev pub wide_way_of : Dictionary → Move → Option ℕ → Option Move
wide_way_of d move (Some i) = None
wide_way_of d move None = first_wide_way d (mover move) (size d)

-- the move that is out of range as the next one is made: that of a way, or the next one itself
abbrev pub wide_move : Dictionary → Move → Option Move
wide_move d move =
    first_of (wide_way_of d move (least_outside d))
    (if is_out_of_range (move_operations d move) then Some move else None)

-- ---- the list

-- why the list ends: its last state is an end, by that step; that move is out of range; or the limit is reached
pub data Ending : Type 0 where
  Ends : Step → Ending
  Overflows : Move → Ending
  Stops : Ending

-- the moves that were made, all in range; the state after them; and why there are no more
pub record Run : Type 0 where
  pub moves : List Move
  pub last : Dictionary
  pub ending : Ending

abbrev pub run_here : Dictionary → Ending → Run
run_here d ending = record { moves = []; last = d; ending = ending }

abbrev pub run_after : Move → Run → Run
run_after move run = record { moves = move ∷ run.moves; last = run.last; ending = run.ending }

-- where no move may be made
abbrev pub ending_at : Step → Ending
ending_at (Makes move) = Stops
ending_at (Crossed v) = Ends (Crossed v)
ending_at (Infeasible i) = Ends (Infeasible i)
ending_at Optimum = Ends Optimum
ending_at (Ray j) = Ends (Ray j)

-- a move, unless one is out of range, and what comes after it
abbrev pub run_by : Dictionary → Move → Option Move → Run → Run
run_by d move None rest = run_after move rest
run_by d move (Some wide) rest = run_here d (Overflows wide)

abbrev pub run_from : Dictionary → Step → (Dictionary → Run) → Run
run_from d (Makes move) rest = run_by d move (wide_move d move) (rest (after d move))
run_from d (Crossed v) rest = run_here d (Ends (Crossed v))
run_from d (Infeasible i) rest = run_here d (Ends (Infeasible i))
run_from d Optimum rest = run_here d (Ends Optimum)
run_from d (Ray j) rest = run_here d (Ends (Ray j))

-- the list from a state, with at most so many moves
unfoldable pub run : ℕ → Dictionary → Run
run zero d = run_here d (ending_at (next d))
run (suc limit) d = run_from d (next d) (run limit)

-- ---- states, whatever is out of range

abbrev pub state_by : Dictionary → Step → Dictionary
state_by d (Makes move) = after d move
state_by d (Crossed v) = d
state_by d (Infeasible i) = d
state_by d Optimum = d
state_by d (Ray j) = d

-- the state after so many moves; after fewer where the list ends before
unfoldable pub state_after : ℕ → Dictionary → Dictionary
state_after zero d = d
state_after (suc k) d = state_after k (state_by d (next d))
