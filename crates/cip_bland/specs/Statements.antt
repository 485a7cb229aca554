-- The main laws, each as one statement: the functions of `src/lib.rt` have them as contracts.
use Rattle.std.specs.Prelude.{◌≡◌, ◌≢◌, ℕ, ◌≤◌, ◌<◌, List, length, None, Some, slice_get, All, ⊤}
use Rattle.cip_rational.specs.Rational.{ℚ, zeroℚ, ◌<ℚ◌}
use Rattle.cip_bland.specs.LinearProgram.{LinearProgram, IsProper, IsPoint, HasNoPoint, IsOptimal, IsRay}
use Rattle.cip_bland.specs.Aggregate.{Inequality, aggregate, bound_of, Empties}
use Rattle.cip_bland.specs.Multipliers.{ArePartsOf}
use Rattle.cip_bland.specs.Dictionary.{Dictionary, IsConsistent}
use Rattle.cip_bland.specs.Exchange.{after, CanMove}
use Rattle.cip_bland.specs.DictionaryStatements.{KeepsSolutions}
use Rattle.cip_bland.specs.ProgramState.{first_of_program}
use Rattle.cip_bland.specs.declared.moves.Move.{Move}
use Rattle.cip_bland.specs.Rule.{next}
use Rattle.cip_bland.specs.MoveList.{wide_move, Ending, Ends, Overflows, Stops, Run, run, state_after}
use Rattle.cip_bland.specs.EndAnswers.{Certificate, parts_of, Answer, Optimal, NoPoint, Unbounded, OutOfRange, LimitReached, answer_at, answer_of, answer}
use Rattle.cip_bland.specs.declared.steps.Step.{Step}
use Rattle.cip_bland.specs.declared.steps.Step.TheVariants.{Crossed, Infeasible, Optimum, Ray, Makes}

-- a state of a program is consistent, and has the solutions and the cost of the first one
abbrev pub IsStateOf : LinearProgram → Dictionary → Type 0
IsStateOf program d = KeepsSolutions (first_of_program program) d

-- ---- right answers

-- the aggregated row of what a certificate names
abbrev pub aggregated : LinearProgram → Certificate → Inequality
aggregated program c = aggregate (length program.bounds) (parts_of program c)

-- what a certificate names are parts of the program, and the factors have the signs that they are to have
pub record IsCertificate (program : LinearProgram) (c : Certificate) : Type 0 where
  pub parts : ArePartsOf program (parts_of program c)
  pub rows : All (λ m. m.factor ≢ zeroℚ) c.rows
  pub lows : All (λ m. zeroℚ <ℚ m.factor) c.lows
  pub highs : All (λ m. m.factor <ℚ zeroℚ) c.highs

-- the point is optimal, and the bound of the certificate is its cost
pub record ShowsOptimum (program : LinearProgram) (point : List ℚ) (c : Certificate) (cost : ℚ) : Type 0 where
  pub optimal : IsOptimal program point cost
  pub certificate : IsCertificate program c
  pub bound : bound_of (aggregated program c) program.costs program.bounds ≡ Some cost

-- there is no point, and the aggregated row of the certificate empties the box
pub record ShowsNoPoint (program : LinearProgram) (c : Certificate) : Type 0 where
  pub no_point : HasNoPoint program
  pub certificate : IsCertificate program c
  pub empty : Empties (aggregated program c) program.bounds

-- from the point the cost falls along the ray
pub record ShowsUnbounded (program : LinearProgram) (point ray : List ℚ) : Type 0 where
  pub is_point : IsPoint program point
  pub is_ray : IsRay program ray

-- what an answer says of the program holds
abbrev pub IsRight : LinearProgram → Answer → Type 0
IsRight program (Optimal point c cost) = ShowsOptimum program point c cost
IsRight program (NoPoint c) = ShowsNoPoint program c
IsRight program (Unbounded point ray) = ShowsUnbounded program point ray
IsRight program (OutOfRange moves) = ⊤
IsRight program LimitReached = ⊤

-- ---- steps

-- a move can be made and leads to a state of the program
pub record Leads (program : LinearProgram) (d : Dictionary) (move : Move) : Type 0 where
  pub can : CanMove d move
  pub state : IsStateOf program (after d move)

-- a move leads on, and an end answers what is right
abbrev pub IsSound : LinearProgram → Dictionary → Step → Type 0
IsSound program d (Makes move) = Leads program d move
IsSound program d (Crossed v) = IsRight program (answer_at program d (Crossed v))
IsSound program d (Infeasible i) = IsRight program (answer_at program d (Infeasible i))
IsSound program d Optimum = IsRight program (answer_at program d Optimum)
IsSound program d (Ray j) = IsRight program (answer_at program d (Ray j))

-- at each consistent state the move of the rule can be made
abbrev pub MovesCanBeMade : Type 0
MovesCanBeMade = (d : Dictionary) (move : Move) → IsConsistent d → next d ≡ Makes move → CanMove d move

-- the next step at each state of a program is sound
abbrev pub StepsAreSound : Type 0
StepsAreSound =
    (program : LinearProgram) (d : Dictionary) → IsProper program → IsStateOf program d → IsSound program d (next d)

-- the first state of a program is one of its states
abbrev pub FirstIsState : Type 0
FirstIsState = (program : LinearProgram) → IsStateOf program (first_of_program program)

-- ---- lists of moves

-- the move of this number is that of the rule after those before it, and in range
pub record IsMade (d : Dictionary) (k : ℕ) (move : Move) : Type 0 where
  pub chosen : next (state_after k d) ≡ Makes move
  pub in_range : wide_move (state_after k d) move ≡ None

-- why a list ends after so many moves at a state: the state is an end; its move may be made, and is out of range; or it
-- has a move, and the limit is reached
abbrev pub IsEnding : ℕ → ℕ → Dictionary → Ending → Type 0
IsEnding limit made d (Ends step) = (next d ≡ step) × ((move : Move) → step ≢ Makes move)
IsEnding limit made d (Overflows wide) =
    (made < limit) × ((move : Move) × (next d ≡ Makes move) × (wide_move d move ≡ Some wide))
IsEnding limit made d Stops = (made ≡ limit) × ((move : Move) × (next d ≡ Makes move))

-- the list of a state is the moves of the rule, one after another
pub record IsRun (limit : ℕ) (d : Dictionary) (r : Run) : Type 0 where
  pub few : length r.moves ≤ limit
  pub made : (k : ℕ) (move : Move) → slice_get r.moves k ≡ Some move → IsMade d k move
  pub last : r.last ≡ state_after (length r.moves) d
  pub ending : IsEnding limit (length r.moves) r.last r.ending

-- so is what is computed at each state; from a state of a program the last one is too, and what the end answers is
-- right
pub record RunsAreRight : Type 0 where
  pub lists : (limit : ℕ) (d : Dictionary) → IsRun limit d (run limit d)
  pub states : (program : LinearProgram) (limit : ℕ) (d : Dictionary)
      → IsProper program → IsStateOf program d → IsStateOf program (run limit d).last
  pub right : (program : LinearProgram) (limit : ℕ) (d : Dictionary)
      → IsProper program → IsStateOf program d → IsRight program (answer_of program (run limit d))

-- the answer on each program is right
abbrev pub AnswersAreRight : Type 0
AnswersAreRight = (program : LinearProgram) (limit : ℕ) → IsProper program → IsRight program (answer limit program)
