-- A law of what solving a program comes to, as one statement: the function of `src/laws.rt` has it as contract.
use Rattle.std.specs.Prelude.{ℕ, Bool, List, Option}
use Rattle.cip_rational.specs.Rational.{ℚ}
use Rattle.cip_problem.specs.Program.{Program}
use Rattle.cip_problem.specs.WellFormed.{IsWellFormed}
use Rattle.cip_problem.specs.Log.{Entry}
use Rattle.cip_solve.specs.Mark.{Mark}
use Rattle.cip_endings.specs.Answers.{AnswerFits}
use Rattle.cip_endings.specs.Answer.{Answer}
use Rattle.cip_endings.specs.AnswerOf.{answer_of}
use Rattle.cip_solve.specs.Solved.{IsSolvedBy}

-- an answer can be printed
abbrev pub AnswersFit : Type 0
AnswersFit =
    (program : Program) (nodes : ℕ) (asked : Option ℚ) (presolved alone : Bool) (log : List Entry)
    (marks : List (ℕ × Mark)) (answer : Answer) → IsWellFormed program
    → IsSolvedBy program nodes asked presolved alone log marks (answer_of answer) → AnswerFits program answer
