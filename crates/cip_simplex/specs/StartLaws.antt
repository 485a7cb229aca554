-- What is said of starts, each as one statement.
use Rattle.std.specs.Prelude.{◌≡◌, ℕ}
use Rattle.cip_problem.specs.LinearProgram.{LinearProgram, IsProper}
use Rattle.cip_bland.specs.ProgramState.{first_of_program}
use Rattle.cip_bland.specs.EndAnswers.{answer}
use Rattle.cip_bland.specs.Statements.{IsStateOf, IsRight}
use Rattle.cip_simplex.specs.Starts.{Stands, stands_of, begun, answer_from, last_from}

-- whatever the start, its moves lead to a state of the program, the last state is one, and the answer is right
pub record StartsAreRight : Type 0 where
  pub states : (program : LinearProgram) (start : Stands) → IsStateOf program (begun program start).last
  pub last : (program : LinearProgram) (start : Stands) (limit : ℕ)
      → IsProper program → IsStateOf program (last_from limit program start)
  pub answers : (program : LinearProgram) (start : Stands) (limit : ℕ)
      → IsProper program → IsRight program (answer_from limit program start)

-- the start of the first state has no moves of its own
abbrev pub SlackIsFirst : Type 0
SlackIsFirst =
    (program : LinearProgram) (limit : ℕ)
    → answer_from limit program (stands_of (first_of_program program)) ≡ answer limit program
