-- Starts: where variables are to be as the moves of the rule begin, and the moves that lead there from the first state.
--     start              of each variable whether it is to be basic, else where it is to stand
--     entering moves     by rising number, a column that is to be basic and isn't is exchanged with the least basic
--                        variable that is to be nonbasic and has an entry on it that isn't 0 (that is a row, since a
--                        column that is basic by then is to be so); where there is none, the column is passed over
--     flipping moves     then, by rising number, each nonbasic variable that is to stand at its other side flips
-- A variable stands where it is to, if it has that side, or has none and is to stand at 0; else where it would at
-- first.
use Rattle.std.specs.Prelude.{ℕ, zero, suc, Bool, true, false, ◌&&◌, ◌||◌, not, List, [], ◌∷◌, ◌++◌, length, Option, None, Some, is_some, unwrap_or, slice_index_or, if◌then◌else◌, ⊤}
use Rattle.cip_problem.specs.Program.{Sides}
use Rattle.cip_problem.specs.Box.{sides_at}
use Rattle.cip_problem.specs.LinearProgram.{LinearProgram}
use Rattle.cip_bland.specs.Tables.{table, least}
use Rattle.cip_bland.specs.Dictionary.{Dictionary, size, stand, is_basic, entry}
use Rattle.cip_bland.specs.Exchange.{after, CanMove}
use Rattle.cip_rational.specs.Rational.{is_zero}
use Rattle.cip_bland.specs.MoveOperations.{move_operations}
use Rattle.cip_bland.specs.FirstState.{first_stand, first_operations}
use Rattle.cip_bland.specs.ProgramState.{system_of, first_of_program}
use Rattle.cip_bland.specs.declared.moves.Stand.{Stand}
use Rattle.cip_bland.specs.declared.moves.Stand.TheVariants.{Low, High, Zero}
use Rattle.cip_bland.specs.declared.moves.Move.{Move}
use Rattle.cip_bland.specs.declared.moves.Move.TheVariants.{Exchange, Flip}
use Rattle.cip_bland.specs.MoveList.{is_out_of_range, run}
use Rattle.cip_bland.specs.EndAnswers.{Answer, OutOfRange, answer_of}
use Rattle.cip_simplex.specs.Advances.{run_behind}
use Rattle.cip_simplex.specs.LpShape.{variables}

-- ---- where variables are to be

-- a start, by variable: None where that is to be basic
abbrev pub Stands : Type 0
Stands = List (Option Stand)

-- where a variable is to be
abbrev pub wish : Stands → ℕ → Option Stand
wish start v = slice_index_or start v None

-- where the variables are at a state
abbrev pub stands_of : Dictionary → Stands
stands_of d = table (size d) (stand d)

-- a variable with these sides can stand there
abbrev pub has_stand : Sides → Stand → Bool
has_stand sides Low = is_some sides.low
has_stand sides High = is_some sides.high
has_stand sides Zero = not (is_some sides.low) && not (is_some sides.high)

-- where one that is to stand there then stands
abbrev pub stand_for : Sides → Stand → Stand
stand_for sides to = if has_stand sides to then to else first_stand sides

-- ---- the moves

-- a basic variable may leave for column k
abbrev pub may_leave : Stands → Dictionary → ℕ → ℕ → Bool
may_leave start d k v = is_basic d v && (is_some (wish start v) && not (is_zero (entry d v k)))

-- where a variable that leaves then stands
abbrev pub leaving_stand : Stands → Dictionary → ℕ → Stand
leaving_stand start d v = stand_for (sides_at d.sides v) (unwrap_or (wish start v) Zero)

abbrev pub exchange_for : Stands → Dictionary → ℕ → Option ℕ → Option Move
exchange_for start d k None = None
exchange_for start d k (Some v) = Some (Exchange v k (leaving_stand start d v))

-- the entering move of column k
abbrev pub entering_move : Stands → Dictionary → ℕ → Option Move
entering_move start d k =
    if is_some (wish start k) || is_basic d k then None
    else exchange_for start d k (least (size d) (may_leave start d k))

-- one is at a side, and the other at the other side
abbrev pub are_opposite : Stand → Stand → Bool
are_opposite Low High = true
are_opposite High Low = true
are_opposite Low Low = false
are_opposite High High = false
are_opposite Zero to = false
are_opposite at Zero = false

abbrev pub flip_with : ℕ → Sides → Option Stand → Option Stand → Option Move
flip_with v sides None to = None
flip_with v sides (Some at) None = None
flip_with v sides (Some at) (Some to) = if are_opposite at (stand_for sides to) then Some (Flip v) else None

-- the flipping move of variable v
abbrev pub flipping_move : Stands → Dictionary → ℕ → Option Move
flipping_move start d v = flip_with v (sides_at d.sides v) (stand d v) (wish start v)

-- ---- one after another

-- the moves that were made, the state after them, and the move that is out of range, where there is one: it isn't made,
-- nor is one after it
pub record Begun : Type 0 where
  pub moves : List Move
  pub last : Dictionary
  pub wide : Option Move

abbrev pub begun_at : Dictionary → Begun
begun_at d = record { moves = []; last = d; wide = None }

-- one more move, where there is one
abbrev pub begun_by : Begun → Option Move → Begun
begun_by b None = b
begun_by b (Some move) =
    if is_out_of_range (move_operations b.last move)
    then record { moves = b.moves; last = b.last; wide = Some move }
    else record { moves = b.moves ++ move ∷ []; last = after b.last move; wide = None }

abbrev pub begun_unless : Option Move → Begun → Option Move → Begun
begun_unless None b move = begun_by b move
begun_unless (Some wide) b move = b

-- the moves of the numbers below n, where `choice` says that of a number at a state
abbrev pub begun_through : ℕ → (Dictionary → ℕ → Option Move) → Begun → Begun
begun_through zero choice b = b
begun_through (suc n) choice b =
    let before : Begun = begun_through n choice b in
    begun_unless before.wide before (choice before.last n)

-- all moves of a start
abbrev pub begun : LinearProgram → Stands → Begun
begun program start =
    begun_through (variables program) (flipping_move start)
    (begun_through (length program.bounds) (entering_move start) (begun_at (first_of_program program)))

-- ---- what is answered

abbrev pub answer_on : LinearProgram → ℕ → Option Move → Begun → Answer
answer_on program limit None b = answer_of program (run_behind b.moves (run limit b.last))
answer_on program limit (Some wide) b = OutOfRange (b.moves ++ wide ∷ [])

-- the answer on a linear program from a start, with at most so many moves by the rule; the moves named begin with those
-- of the start
unfoldable pub answer_from : ℕ → LinearProgram → Stands → Answer
answer_from limit program start =
    if is_out_of_range (first_operations (system_of program)) then OutOfRange []
    else answer_on program limit (begun program start).wide (begun program start)

abbrev pub last_on : ℕ → Option Move → Begun → Dictionary
last_on limit None b = (run limit b.last).last
last_on limit (Some wide) b = b.last

-- the last state in range, and the first state where there is none
unfoldable pub last_from : ℕ → LinearProgram → Stands → Dictionary
last_from limit program start =
    if is_out_of_range (first_operations (system_of program)) then first_of_program program
    else last_on limit (begun program start).wide (begun program start)

-- ---- moves that can be made

-- a move, where there is one, can be made
abbrev pub CanMake : Dictionary → Option Move → Type 0
CanMake d None = ⊤
CanMake d (Some move) = CanMove d move
