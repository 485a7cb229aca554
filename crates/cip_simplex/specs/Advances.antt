-- What the code says of a step by Bland's rule.
use Rattle.std.specs.Prelude.{◌≡◌, ◌≢◌, ℕ, ◌<◌, true, List, ◌++◌, None, Some}
use Rattle.cip_bland.specs.Dictionary.{Dictionary, size}
use Rattle.cip_bland.specs.Exchange.{after, CanExchange}
use Rattle.cip_bland.specs.declared.moves.Move.{Move}
use Rattle.cip_bland.specs.declared.moves.Move.TheVariants.{Exchange}
use Rattle.cip_bland.specs.Rule.{way_of, shortest, improves, least_outside, going, next}
use Rattle.cip_bland.specs.MoveList as list
use Rattle.cip_bland.specs.declared.steps.Step.{Step}
use Rattle.cip_bland.specs.declared.steps.Step.TheVariants as step
use Rattle.cip_simplex.specs.declared.steps.Choice.{Choice}
use Rattle.cip_simplex.specs.declared.steps.Choice.TheVariants.{Crossed, Infeasible, Optimum, Repair, Improve}
use Rattle.cip_simplex.specs.declared.steps.Advance.{Advance}
use Rattle.cip_simplex.specs.declared.steps.Advance.TheVariants.{Made, Wide, End}
use Rattle.cip_simplex.specs.declared.steps.Ending.{Ending}
use Rattle.cip_simplex.specs.declared.steps.Ending.TheVariants.{Ends, Overflows, Stops}

-- ---- before ways are formed

-- the next step is this exchange, by which a variable that is outside leaves
pub record Repairs (d : Dictionary) (move : Move) (i : ℕ) : Type 0 where
  pub is_next : next d ≡ step.Makes move
  pub outside : least_outside d ≡ Some i

-- the next step is that of the shortest way of j, which lets the cost fall
pub record Improves (d : Dictionary) (j : ℕ) : Type 0 where
  pub is_next : next d ≡ going j (shortest (size d) (way_of d j))
  pub within : j < size d
  pub improving : improves d j ≡ true
  pub inside : least_outside d ≡ None

-- what is chosen leads to the next step
abbrev pub IsChoice : Dictionary → Choice → Type 0
IsChoice d (Crossed v) = next d ≡ step.Crossed v
IsChoice d (Infeasible i) = next d ≡ step.Infeasible i
IsChoice d Optimum = next d ≡ step.Optimum
IsChoice d (Repair i j to) = CanExchange d i j to × Repairs d (Exchange i j to) i
IsChoice d (Improve j) = Improves d j

-- ---- a step that is made

-- a step is an end
abbrev pub IsEnd : Step → Type 0
IsEnd s = (move : Move) → s ≢ step.Makes move

-- what a step came to: the next move, in range, or the move that is out of range, or the end that the state is; the
-- state is the one after that move, or as it was
pub record HasMade (before later : Dictionary) (move : Move) : Type 0 where
  pub is_next : next before ≡ step.Makes move
  pub in_range : list.wide_move before move ≡ None
  pub state : later ≡ after before move

pub record IsWideAt (before later : Dictionary) (wide : Move) : Type 0 where
  pub move : Move
  pub is_next : next before ≡ step.Makes move
  pub out_of_range : list.wide_move before move ≡ Some wide
  pub state : later ≡ before

pub record IsEndAt (before later : Dictionary) (s : Step) : Type 0 where
  pub is_next : next before ≡ s
  pub is_end : IsEnd s
  pub state : later ≡ before

abbrev pub IsAdvance : Dictionary → Dictionary → Advance → Type 0
IsAdvance before later (Made move) = HasMade before later move
IsAdvance before later (Wide move) = IsWideAt before later move
IsAdvance before later (End s) = IsEndAt before later s

-- ---- a list of moves

-- why it ends, as the definitions say it
abbrev pub ending_of : Ending → list.Ending
ending_of (Ends s) = list.Ends s
ending_of (Overflows move) = list.Overflows move
ending_of Stops = list.Stops

-- a list of moves after others
abbrev pub run_behind : List Move → list.Run → list.Run
run_behind moves run = record { moves = moves ++ run.moves; last = run.last; ending = run.ending }
