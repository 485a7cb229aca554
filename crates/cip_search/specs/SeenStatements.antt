-- The laws, each as one statement: the functions of `src/lib.rt` have them as contracts.
use Rattle.std.specs.Prelude.{◌≡◌, ℕ, List, [], ◌∷◌, length, Option}
use Rattle.cip_rational.specs.Rational.{ℚ}
use Rattle.cip_problem.specs.Program.{Program}
use Rattle.cip_problem.specs.WellFormed.{IsWellFormed}
use Rattle.cip_problem.specs.Log.{Entry, AllFollow}
use Rattle.cip_search.specs.Searched.{first_node}
use Rattle.cip_search.specs.WideLeaf.{IsWideLeaf}
use Rattle.cip_search.specs.Pairs.{IsPair}
use Rattle.cip_search.specs.SearchState.{State, WayBack, stay, IsSearch, IsAsGiven, HasGivenBoxes}
use Rattle.cip_search.specs.SearchAnswers.{IsParkedLast, AreRelaxed, AreOfEntries}
use Rattle.cip_search.specs.SearchEnds.{Answer}
use Rattle.cip_search.specs.EndLaws.{IsAnswerOf}
use Rattle.cip_search.specs.SeenLogs.{log_seen, state_seen}

-- a reduced program of a well-formed one, by a pair
pub record IsReducedTo (program reduced : Program) (post : List ℚ → List ℚ) (kept : ℕ → ℕ) : Type 0 where
  pub formed : IsWellFormed program
  pub reduced_formed : IsWellFormed reduced
  pub pair : IsPair program reduced post kept

-- what a log over the reduced program says of the program, seen there
pub record IsLogSeen
    (program reduced : Program) (kept : ℕ → ℕ) (start : Option ℚ) (log : List Entry) : Type 0 where
  -- it is one of the program
  pub followed : AllFollow program.integral (first_node program start ∷ []) [] (log_seen kept log)
  -- bounds that are as good as those of the reduced program's linear programs are as good as those of the program's
  pub relaxed : (marked : List ℕ)
      → AreRelaxed reduced start log marked → AreRelaxed program start (log_seen kept log) marked
  -- marks stay marks of entries, the last entry stays parked, and the log is as long
  pub entries : (numbers : List ℕ) → AreOfEntries log numbers → AreOfEntries (log_seen kept log) numbers
  pub last : IsParkedLast log → IsParkedLast (log_seen kept log)
  pub long : length (log_seen kept log) ≡ length log

abbrev pub LogsAreSeen : Type 0
LogsAreSeen =
    (program reduced : Program) (post : List ℚ → List ℚ) (kept : ℕ → ℕ) (start : Option ℚ) (log : List Entry)
    → IsReducedTo program reduced post kept
    → AllFollow reduced.integral (first_node reduced start ∷ []) [] log
    → IsLogSeen program reduced kept start log

-- what a search over the reduced program says of the program, seen there
pub record IsSeen (program reduced : Program) (kept : ℕ → ℕ) (start : Option ℚ) (state : State) : Type 0 where
  -- it is a search of the program itself
  pub searched : IsSearch program program stay IsWideLeaf start (state_seen program start kept state)
  -- open nodes have the bounds that the log gave them, if they had; and all nodes have the boxes
  pub as_given : IsAsGiven reduced start state → IsAsGiven program start (state_seen program start kept state)
  pub boxes : HasGivenBoxes program start (state_seen program start kept state)
  -- what it answers is an answer of the search seen
  pub answers : (nodes : ℕ) (asked : Option ℚ) (answer : Answer)
      → IsAnswerOf program reduced nodes asked state answer
      → IsAnswerOf program program nodes asked (state_seen program start kept state) answer

-- so it is by whatever way its points come back
abbrev pub SearchesAreSeen : Type 0
SearchesAreSeen =
    (program reduced : Program) (post : List ℚ → List ℚ) (kept : ℕ → ℕ) (way : WayBack) (start : Option ℚ)
    (state : State) → IsReducedTo program reduced post kept → IsSearch program reduced way IsWideLeaf start state
    → IsSeen program reduced kept start state
