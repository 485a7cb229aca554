-- What holds of the tree and the point held of a search between two steps: of a program as read, of the reduced program
-- that is searched in its place, and of the way back from that.
use Rattle.std.specs.Prelude.{◌≡◌, ℕ, ◌+◌, ◌^◌, true, List, Option, option_map}
use Rattle.std.specs.List.{Contains}
use Rattle.cip_rational.specs.Rational.{ℚ}
use Rattle.cip_problem.specs.Program.{Sides, Program}
use Rattle.cip_problem.specs.Box.{sides_at}
use Rattle.cip_problem.specs.WellFormed.{columns}
use Rattle.cip_problem.specs.Log.{Node, matters}
use Rattle.cip_search.specs.Searched.{first_node}
use Rattle.cip_search.specs.WideLeaf.{IsWideLeaf}
use Rattle.cip_tree.specs.Nodes.{Nodes}
use Rattle.cip_incumbent.specs.HeldPoint.{Holding, HoldsPointOf}
use Rattle.cip_node_rules.specs.OpenColumns.{is_whole_at}
use Rattle.cip_node_rules.specs.SplitRules.{AreNear}
use Rattle.cip_search.specs.SearchState.{State, WayBack, unended, IsSearch, IsAsGiven}

-- the cost held, if a point is
abbrev pub cost_held : Holding → Option ℚ
cost_held holding = option_map (λ best. best.cost) holding.best

-- where a search stands, with these nodes in work
abbrev pub state_of : Nodes → Option ℚ → List Node → State
state_of tree held work =
    record { held = held; work = work; open_ = tree.open_; parked = tree.parked; log = tree.log }

-- the bounds and boxes of the nodes, and the log, are those of a search of the reduced program
abbrev pub IsSearchOf : Program → Program → WayBack → Nodes → Option ℚ → List Node → Type 0
IsSearchOf program reduced way tree held work =
    IsSearch program reduced way IsWideLeaf tree.root.bound (state_of tree held work)

-- how far from 0 the whole numbers next to the sides of whole columns are at most, after so many nodes
abbrev pub farthest : ℕ → ℕ
farthest ids = 2 ^ 100 + ids

-- the sides of the whole columns of a box are no farther
abbrev pub IsNearBox : Program → ℕ → List Sides → Type 0
IsNearBox reduced ids box =
    (column : ℕ) → is_whole_at reduced.integral column ≡ true → AreNear (farthest ids) (sides_at box column)

-- with these nodes in work
pub record IsKept
    (program reduced : Program) (way : WayBack) (tree : Nodes) (held : Option ℚ) (work : List Node) : Type 0 where
  pub searched : IsSearchOf program reduced way tree held work
  -- open nodes have the bounds that the log gave them
  pub as_given : IsAsGiven reduced tree.root.bound (state_of tree held work)
  -- the root has the reduced program's box and choices, and the whole columns are its
  pub root : tree.root ≡ first_node reduced tree.root.bound
  pub integral : tree.integral ≡ reduced.integral
  -- sides are not too far from 0
  pub near : (node : Node)
      → Contains (unended (state_of tree held work)) node → IsNearBox reduced tree.ids node.box

-- each open node matters beside the cost held
abbrev pub AllMatter : Option ℚ → List Node → Type 0
AllMatter held open_ = (node : Node) → Contains open_ node → matters held node.bound ≡ true

-- the point held is one of the program
pub record IsHolding (program : Program) (holding : Holding) : Type 0 where
  pub feasible : HoldsPointOf program holding
  pub room : holding.columns ≡ columns program
