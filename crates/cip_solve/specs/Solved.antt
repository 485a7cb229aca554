-- What solving a program comes to.
use Rattle.std.specs.Prelude.{◌≡◌, ℕ, ◌≤◌, Bool, true, false, List, [], Option, None, Some, option_map}
use Rattle.std.specs.List.{Contains}
use Rattle.cip_rational.specs.Rational.{ℚ}
use Rattle.cip_problem.specs.Program.{Program}
use Rattle.cip_problem.specs.WellFormed.{columns}
use Rattle.cip_problem.specs.Log.{Entry, Node, node_of}
use Rattle.cip_solve.specs.Lent.{Lent}
use Rattle.cip_search.specs.Searched.{nodes_given}
use Rattle.cip_model.specs.Rays.{IsShownRay}
use Rattle.cip_search.specs.SearchEnds.{Unbounded, NoMemory, Answer}
use Rattle.cip_search.specs.SearchAnswers.{IsSearchAnswer}
use Rattle.cip_solve.specs.Relaxing.{IsMark}
use Rattle.cip_solve.specs.Mark.{Mark}
use Rattle.cip_solve.specs.Beginning.{IsRootBound}
use Rattle.cip_solve.specs.Logs.{numbers_of}

-- the program's rows, and no others
abbrev pub own_rows : Program → Lent
own_rows program = record { own = program.rows; pool = []; cutoff = None }

-- the linear program of the node that the log gave this number met what a mark says, with room for all columns
pub record IsMet (program : Program) (start : Option ℚ) (log : List Entry) (number : ℕ) (mark : Mark) : Type 0 where
  pub node : Node
  pub given : node_of (nodes_given program start log) number ≡ Some node
  pub room : ℕ
  pub wide : columns program ≤ room
  pub is_mark : IsMark program (own_rows program) node.box room mark

-- so it is of all marks
abbrev pub AreMet : Program → Option ℚ → List Entry → List (ℕ × Mark) → Type 0
AreMet program start log marks =
    (marked : ℕ × Mark) → Contains marks marked → IsMet program start log marked.0 marked.1

-- the check of rays accepts a ray beside a point that is held
pub record IsShownBeside (program : Program) (held : Option (List ℚ)) (ray : List ℚ) : Type 0 where
  pub point : List ℚ
  pub is_held : held ≡ Some point
  pub shown : IsShownRay program point ray

-- the ray of an answer, if it has one, is one that the check of rays accepts beside the point held
abbrev pub RayIsShown : Program → Answer → Type 0
RayIsShown program answer =
    (ray : List ℚ) → answer.ended ≡ Unbounded ray
    → IsShownBeside program (option_map (λ held. held.point) answer.held) ray

-- the answer of a search from the root's bound on, with its log and the marks of nodes by their numbers; `nodes` is the
-- budget, `asked` the gap that was asked for, if one was; `presolved` says whether presolve might reduce the program
-- first, and `alone` that no plugin was asked
pub record IsSolvedBy
    (program : Program) (nodes : ℕ) (asked : Option ℚ) (presolved alone : Bool) (log : List Entry)
    (marks : List (ℕ × Mark)) (answer : Answer) : Type 0 where
  pub start : Option ℚ
  pub root : IsRootBound program start
  pub right : IsSearchAnswer program start nodes asked log (numbers_of marks) answer
  -- a ray is one that the check of rays accepts beside the point held
  pub shown : RayIsShown program answer
  -- where nothing was presolved, a node was taken, unless memory was refused
  pub taken : presolved ≡ false → log ≡ [] → answer.ended ≡ NoMemory
  -- and where nobody was asked either, marks say what the linear programs of their nodes met: those of a reduced
  -- program, or of one with rows that plugins added, aren't the program's
  pub met : presolved ≡ false → alone ≡ true → AreMet program start log marks

-- so it is of a search without presolve and without plugins
abbrev pub IsSolved
    : Program → ℕ → Option ℚ → List Entry → List (ℕ × Mark) → Answer → Type 0
IsSolved program nodes asked log marks answer = IsSolvedBy program nodes asked false true log marks answer
