-- The answer of a search that has stopped.
use Rattle.std.specs.Prelude.{◌≡◌, ℕ, List, [], Option}
use Rattle.cip_rational.specs.Rational.{ℚ}
use Rattle.cip_problem.specs.Program.{Program}
use Rattle.cip_problem.specs.Log.{Entry}
use Rattle.cip_search.specs.SearchEnds.{NoMemory, Answer}
use Rattle.cip_search.specs.SearchAnswers.{IsSearchAnswer}
use Rattle.cip_solve.specs.Mark.{Mark}
use Rattle.cip_solve.specs.Logs.{numbers_of}
use Rattle.cip_solve.specs.Solved.{RayIsShown}

-- it is right beside the log of its search and the numbers of its marks, its ray is shown, and a node was taken, unless
-- memory was refused
pub record IsAnswered
    (program : Program) (start : Option ℚ) (nodes : ℕ) (asked : Option ℚ) (log : List Entry)
    (marks : List (ℕ × Mark)) (answer : Answer) : Type 0 where
  pub right : IsSearchAnswer program start nodes asked log (numbers_of marks) answer
  pub shown : RayIsShown program answer
  pub taken : log ≡ [] → answer.ended ≡ NoMemory
