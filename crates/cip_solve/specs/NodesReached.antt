-- What the work on a node has come to, while the node is in work, and who was asked meanwhile.
use Rattle.std.specs.Prelude.{◌≡◌, ℕ, false, List, [], ◌∷◌, Option, None, Some}
use Rattle.cip_tree.specs.Nodes.{TakenNode, region_of, box_of, shown}
use Rattle.cip_plugin.specs.Calls.{Ask, Propagate, Separate, Search}
use Rattle.cip_plugin.specs.Seats.{State}
use Rattle.cip_calls.specs.CoreStates.{CoreState, IsTakenUp}
use Rattle.cip_calls.specs.Later.{IsLater, IsNarrower}
use Rattle.cip_node.specs.Bounding.{IsFound}
use Rattle.cip_node.specs.Looking.{IsLeafNode, IsOpenNode}
use Rattle.cip_node.specs.declared.bounding.Found.{Found}
use Rattle.cip_node.specs.declared.bounding.Bounded.{Bounded}
use Rattle.cip_node.specs.declared.bounding.Bounded.TheVariants as solved
use Rattle.cip_node_rules.specs.declared.looks.Looked.{Looked}
use Rattle.cip_node_rules.specs.declared.looks.Looked.TheVariants as look
use Rattle.cip_calls.specs.ProposalsJudged.{IsShownEmpty}
use Rattle.cip_calls.specs.SplitsJudged.{IsPlace}
use Rattle.cip_calls.specs.declared.judged.Judged.{Judged}
use Rattle.cip_calls.specs.Served.{Used}
use Rattle.cip_calls.specs.declared.judging.Came.{Came}
use Rattle.cip_calls.specs.declared.judging.Came.TheVariants as came
use Rattle.cip_calls.specs.declared.enforcing.Verdict.{Verdict}
use Rattle.cip_calls.specs.declared.enforcing.Verdict.TheVariants as said
use Rattle.cip_solve.specs.declared.reached.Reached.{Reached}
use Rattle.cip_solve.specs.declared.reached.Reached.TheVariants as stage

-- ---- what is known of a node in work

-- what the last linear program of a node in work found is so, as the node and the pool stand
abbrev pub IsFoundAt : CoreState → TakenNode → Found → Type 0
IsFoundAt core node found = IsFound core (box_of core.tree node) node.bound found

-- its box has no improving point any more, or that is so still
abbrev pub IsFoundBy : Came → CoreState → TakenNode → Found → Type 0
IsFoundBy came.Emptied core node found = IsShownEmpty core node
IsFoundBy came.Quiet core node found = IsFoundAt core node found
IsFoundBy came.Accepted core node found = IsFoundAt core node found

-- a linear program leaves a node open
abbrev pub IsOpenBounded : Bounded → Type 0
IsOpenBounded solved.Empty = ⊥
IsOpenBounded (solved.Open found) = Unit {0}

-- what rounds leave of a node, by what came of the last one and by what its linear program found
abbrev pub left_by : Came → Found → Bounded
left_by came.Emptied found = solved.Empty
left_by came.Quiet found = solved.Open found
left_by came.Accepted found = solved.Open found

-- what another look at its box comes to
abbrev pub IsSeen : CoreState → TakenNode → Looked → Type 0
IsSeen core node look.Empty = IsShownEmpty core node
IsSeen core node look.Leaf = IsLeafNode core node
IsSeen core node look.Open = IsOpenNode core node

-- no improving point is in its box; or it is a leaf; or it is open, with what its last linear program found, and it may
-- be split where a plugin wants it
abbrev pub IsReached : CoreState → TakenNode → Reached → Type 0
IsReached core node stage.Empty = IsShownEmpty core node
IsReached core node stage.Leaf = IsLeafNode core node
IsReached core node (stage.Open found) = IsOpenNode core node × IsFoundAt core node found
IsReached core node (stage.Place found split) =
    IsOpenNode core node × IsFoundAt core node found × IsPlace core split.col split.at

abbrev pub IsReachedIf : CoreState → TakenNode → Option Reached → Type 0
IsReachedIf core node None = Unit {0}
IsReachedIf core node (Some reached) = IsReached core node reached

-- what an open node comes to by what handlers said: it goes back to its sides where a side or a row was accepted
abbrev pub reached_by : Found → Verdict → Option Reached
reached_by found said.Quiet = Some (stage.Open found)
reached_by found said.Emptied = Some stage.Empty
reached_by found said.Changed = None
reached_by found (said.Place split) = Some (stage.Place found split)

-- ---- steps of a node, which may be in work or not yet

-- a node was taken up and is so still, in a later core; its box lies inside what it was and has the improving points of
-- that, its bound is no less, and nothing was logged
pub record HasMoved (old : CoreState) (had : TakenNode) (new : CoreState) (has : TakenNode) : Type 0 where
  pub later : IsLater old new
  pub up : IsTakenUp new has
  pub narrower : IsNarrower new (shown old.tree had) (shown new.tree has)
  pub log : new.tree.log ≡ old.tree.log
  pub parked : new.tree.parked ≡ old.tree.parked
  pub ids : new.tree.ids ≡ old.tree.ids
  pub same : new.touched ≡ false → region_of new.tree has ≡ region_of old.tree had

-- ---- who was asked

-- what plugins are asked for between a look at a node and its split: sides, rows and points
abbrev pub asks_in_pass : List Ask
asks_in_pass = Propagate ∷ Separate ∷ Search ∷ []

-- where a node is open, plugins were used so
abbrev pub IsUsedIn
    : List Ask → Reached → State → List (ℕ × Judged) → State → List (ℕ × Judged) → Type 0
IsUsedIn asks stage.Empty before had after has = Unit {0}
IsUsedIn asks stage.Leaf before had after has = Unit {0}
IsUsedIn asks (stage.Open found) before had after has = Used asks before had after has
IsUsedIn asks (stage.Place found split) before had after has = Used asks before had after has

-- where a node goes back to its sides, what they proposed was judged
abbrev pub IsUsedIf : Option Reached → State → List (ℕ × Judged) → State → List (ℕ × Judged) → Type 0
IsUsedIf None before had after has = Used [] before had after has
IsUsedIf (Some reached) before had after has = IsUsedIn asks_in_pass reached before had after has
