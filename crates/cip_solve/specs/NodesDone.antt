-- How the work on a node with plugins ends.
use Rattle.std.specs.Prelude.{◌≡◌, ◌+◌, ◌≤◌, ◌∷◌, ◌++◌, [], ℕ, ℤ, Bool, true, false, List, Option, IfSome}
use Rattle.cip_rational.specs.Rational.{ℚ}
use Rattle.cip_problem.specs.Log.{Split, Node}
use Rattle.cip_problem.specs.WellFormed.{columns}
use Rattle.cip_events.specs.Events.{event_at}
use Rattle.cip_events.specs.declared.events.EventKind.TheVariants.{NodeFocused}
use Rattle.cip_plugin.specs.Calls.{Ask, Branch, OnEvent}
use Rattle.cip_plugin.specs.Seats.{State}
use Rattle.cip_node.specs.Mark.{Mark}
use Rattle.cip_tree.specs.Nodes.{TakenNode, box_of, shown}
use Rattle.cip_calls.specs.CoreStates.{CoreState, reduced_of, IsKeptIn}
use Rattle.cip_calls.specs.Later.{IsLater, IsNarrower}
use Rattle.cip_calls.specs.Steps.{LeavesEntry, aged}
use Rattle.cip_node.specs.Bounding.{IsMarkOf, IsAsGood, HasTried}
use Rattle.cip_node.specs.NodeEnds.{IsLeafEnd, HasEnded}
use Rattle.cip_node.specs.declared.ends.NodeEnd.{NodeEnd}
use Rattle.cip_node.specs.declared.ends.NodeEnd.TheVariants as by
use Rattle.cip_roster.specs.KeptRankings.{Room}
use Rattle.cip_roster.specs.Turns.{IsSound}
use Rattle.cip_roster.specs.Wished.{Ran}
use Rattle.cip_calls.specs.ProposalsJudged.{HaveRoom}
use Rattle.cip_calls.specs.declared.judged.Judged.{Judged}
use Rattle.cip_calls.specs.declared.scratches.Scratches.{Scratches}
use Rattle.cip_calls.specs.Noted.{HasMoreRows}
use Rattle.cip_calls.specs.Served.{Used}
use Rattle.cip_solve.specs.NodesReached.{asks_in_pass}
use Rattle.cip_solve.specs.declared.ends.Done.{Done}
use Rattle.cip_solve.specs.declared.reached.Reached.{Reached}
use Rattle.cip_solve.specs.declared.reached.Reached.TheVariants as stage

-- ---- ends

-- it was split where a plugin wanted it, with a bound that is as good as that of its last linear program, unless a mark
-- says what that met; what the point of that program comes back as, if it has one and comes back in range, was offered.
-- The box of each is the node's as it ended
pub record HasParted (old new : CoreState) (node : TakenNode) (mark : Option Mark) (end : NodeEnd) : Type 0 where
  pub ended : Node
  pub narrower : IsNarrower new (shown old.tree node) ended
  pub same : new.touched ≡ false → ended.box ≡ box_of old.tree node
  pub later : IsLater old new
  pub few : new.tree.ids ≤ old.tree.ids + 2
  pub low : ℕ
  pub high : ℕ
  pub end_ : end ≡ by.Split low high
  pub column : ℕ
  pub at : ℤ
  pub entry : LeavesEntry old.tree new.tree ended (Split column at low high)
  pub kept : IsKeptIn new []
  pub good : IsAsGood new ended.box ended.bound mark
  pub point : Option (List ℚ)
  pub tried : HasTried new ended.box point mark
  pub met : IfSome mark (IsMarkOf new ended.box)

-- it ended as the work on a node without plugins does; or it was split where a plugin wanted it
abbrev pub HasEndedBy : Bool → CoreState → CoreState → TakenNode → Option Mark → NodeEnd → Type 0
HasEndedBy false old new node mark end = HasEnded old new node mark end
HasEndedBy true old new node mark end = HasParted old new node mark end

abbrev pub IsDone : CoreState → CoreState → TakenNode → Done → Type 0
IsDone old new node done = HasEndedBy done.proposed old new node done.mark done.end

-- ---- what is kept

-- there is room for checks, plugins were called or told, and no row of the pool has gone but as it aged once
pub record HasAged
    (old : CoreState) (before : State) (new : CoreState) (scratches : Scratches) (after : State) (room : Room)
    : Type 0 where
  pub space : HaveRoom scratches (columns (reduced_of new))
  pub sound : IsSound after room
  pub run : Ran before after
  pub rows : HasMoreRows (aged old.pool) new.pool

-- ---- who was asked

-- behind all that plugins of an open node were asked for, rules were asked for a split, where none of a plugin was
-- accepted
abbrev pub asks_for_split : Bool → NodeEnd → List Ask
asks_for_split false (by.Split low high) = Branch ∷ []
asks_for_split true end = []
asks_for_split false end = []

-- from what the work on a node has come to until it has ended: it ended as a leaf may, or rules were asked where that
-- was due
abbrev pub IsEndUsed : Reached → Done → State → List (ℕ × Judged) → State → List (ℕ × Judged) → Type 0
IsEndUsed stage.Empty done before had after has = IsLeafEnd done.end
IsEndUsed stage.Leaf done before had after has = IsLeafEnd done.end
IsEndUsed (stage.Open found) done before had after has =
    Used (asks_for_split done.proposed done.end) before had after has
IsEndUsed (stage.Place found split) done before had after has =
    Used (asks_for_split done.proposed done.end) before had after has

-- what was asked in the work on the node of this number that ended so: that it was taken up was told, too
abbrev pub asks_until : ℕ → Bool → NodeEnd → List Ask
asks_until number proposed end = OnEvent (event_at number NodeFocused) ∷ asks_in_pass ++ asks_for_split proposed end

-- a node that was split or pruned used its plugins so
abbrev pub IsUsedAt
    : ℕ → Bool → NodeEnd → State → List (ℕ × Judged) → State → List (ℕ × Judged) → Type 0
IsUsedAt number proposed (by.Split low high) before had after has =
    Used (asks_until number proposed (by.Split low high)) before had after has
IsUsedAt number proposed by.Pruned before had after has =
    Used (asks_until number proposed by.Pruned) before had after has
IsUsedAt number proposed by.Empty before had after has = Unit {0}
IsUsedAt number proposed by.Solved before had after has = Unit {0}
IsUsedAt number proposed (by.Parked leaf on bound shown) before had after has = Unit {0}
IsUsedAt number proposed (by.Ray point ray) before had after has = Unit {0}

abbrev pub IsDoneUsing : ℕ → Done → State → List (ℕ × Judged) → State → List (ℕ × Judged) → Type 0
IsDoneUsing number done before had after has = IsUsedAt number done.proposed done.end before had after has
