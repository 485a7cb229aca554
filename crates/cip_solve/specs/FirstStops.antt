-- When a search stops by the gap that was asked for: not before a node behind which the log settles that it is
-- reached. A log says what each node ended as, and not when a point was found: so of the nodes before the last it can
-- be said that a search may have stood behind them with a point and a least bound that don't reach the gap.
use Rattle.std.specs.Prelude.{◌≡◌, ℕ, ◌<◌, ◌≤◌, List, [], length, take, Option}
use Rattle.cip_rational.specs.Rational.{ℚ}
use Rattle.cip_problem.specs.Program.{Program}
use Rattle.cip_problem.specs.Log.{Entry}
use Rattle.cip_search.specs.WideLeaf.{IsWideLeaf}
use Rattle.cip_incumbent.specs.HeldPoint.{Holding}
use Rattle.cip_search.specs.SearchState.{State, stay, all_nodes, IsSearch, IsAsGiven, HasGivenBoxes}
use Rattle.cip_solve.specs.Beginning.{IsRootBound}
use Rattle.cip_solve.specs.KeptNodes.{cost_held, AllMatter, IsHolding}
use Rattle.cip_solve.specs.Searching.{HasReachedGap}

-- entries were only added behind those of a log
abbrev pub IsLongerLog : List Entry → List Entry → Type 0
IsLongerLog old new = (entries : ℕ) → entries ≤ length old → take entries new ≡ take entries old

-- a search of the program may stand so behind the first entries of a log, as many as are said, with this point held,
-- and then the gap isn't reached; boxes are those of the log. It says where a search stands, and nothing of a tree:
-- that may be one of the program that presolve made, and only its nodes and its log can be seen in the program as read
pub record IsShortAt (program : Program) (start asked : Option ℚ) (log : List Entry) (entries : ℕ) : Type 0 where
  pub state : State
  pub holding : Holding
  pub searched : IsSearch program program stay IsWideLeaf start state
  pub as_given : IsAsGiven program start state
  pub boxes : HasGivenBoxes program start state
  pub idle : state.work ≡ []
  pub logged : state.log ≡ take entries log
  pub is_held : IsHolding program holding
  pub cost_is : state.held ≡ cost_held holding
  pub matter : AllMatter state.held state.open_
  pub short : HasReachedGap asked state.held (all_nodes state) → ⊥

-- behind no node but the last does the log settle that it is reached
abbrev pub IsFirstStop : Program → (start asked : Option ℚ) → List Entry → Type 0
IsFirstStop program start asked log =
    (entries : ℕ) → 0 < entries → entries < length log → IsShortAt program start asked log entries

-- so it is of a search from the bound of the root on
pub record StopsFirst (program : Program) (asked : Option ℚ) (log : List Entry) : Type 0 where
  pub start : Option ℚ
  pub root : IsRootBound program start
  pub first : IsFirstStop program start asked log
