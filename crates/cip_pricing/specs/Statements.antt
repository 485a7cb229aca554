-- The main laws, each as one statement: the functions of `src/lib.rt` have them as contracts.
use Rattle.std.specs.Prelude.{◌≡◌, ℕ, ◌<◌, ◌≤◌, ℤ, Bool, List, [], ◌∷◌, ◌++◌, length, Option, None, Some, slice_get}
use Rattle.std.specs.List.{AllByRecursion}
use Rattle.cip_rational.specs.Rational.{ℚ, ◌+ℚ◌, ◌-ℚ◌, ◌*ℚ◌, zeroℚ, oneℚ, ◌≤ℚ◌, ◌<ℚ◌}
use Rattle.cip_rational.specs.Sums.{dot, AllNonneg}
use Rattle.cip_problem.specs.Program.{Sides, Row, Program}
use Rattle.cip_problem.specs.Activity.{activity}
use Rattle.cip_problem.specs.Box.{IsInBox}
use Rattle.cip_problem.specs.BoxBound.{least_costs}
use Rattle.cip_problem.specs.Choices.{choice_at, lesser}
use Rattle.cip_problem.specs.Points.{IsFeasible, cost_of}
use Rattle.cip_problem.specs.Log.{Node, low_node, high_node, CanSplitAt}
use Rattle.cip_pricing.specs.Decomposition.{Owner, Decomposition, picked, renumbered, StandsOn, IsOwner, IsDecomposed, master_rows, conditions_of, IsBlockPoint}
use Rattle.cip_pricing.specs.Mixtures.{Held, IsMixture, MeetsMaster, total}
use Rattle.cip_pricing.specs.LeastCosts.{side_total, AreRests, sum_below, price_total, ArePrices, ShowsLeast, IsLeastMixture}
use Rattle.cip_pricing.specs.TreeBounds.{IsTreeBound}
use Rattle.cip_pricing.specs.MasterForms.{held_owners, master_form, mixed, reduced_cost, reduced_costs, master_box}

-- a linear form is the sum of its parts on the columns of no block and on those of each block, and a row of a block has
-- at a point the activity that it has, renumbered, at the block's part of the point
pub record PointsFallIntoParts : Type 0 where
  pub sums : (count : ℕ) (owners : List Owner) (form point : List ℚ)
      → AllByRecursion (IsOwner count) owners → length form ≤ length owners
      → dot form point
      ≡ dot (picked None owners form) (picked None owners point)
      +ℚ sum_below count (λ block. dot (picked (Some block) owners form) (picked (Some block) owners point))
  pub rows : (owners : List Owner) (block : ℕ) (row : Row) (point : List ℚ)
      → StandsOn owners block row
      → activity (renumbered (Some block) owners row).terms (picked (Some block) owners point) ≡ activity row.terms
      point

-- at a feasible point in a box each block's part is a point of the block, and the point is a mixture that satisfies the
-- master rows
pub record FeasiblePointsMix : Type 0 where
  pub parts : (program : Program) (blocks : Decomposition) (box : List Sides) (point : List ℚ) (block : ℕ)
      → IsDecomposed program blocks → IsFeasible program point → IsInBox box point
      → IsBlockPoint program blocks box block (picked (Some block) blocks.columns point)
  pub mixture : (program : Program) (blocks : Decomposition) (box : List Sides) (point : List ℚ)
      → IsDecomposed program blocks → length box ≡ length blocks.columns
      → IsFeasible program point → IsInBox box point → IsMixture program blocks box None point
  pub meets : (program : Program) (blocks : Decomposition) (point : List ℚ)
      → IsFeasible program point → MeetsMaster program blocks point

-- without multipliers the costs are left; with one more row, what is left changes by it times its multiplier; and one
-- list alone is left
pub record RestsAreFormed : Type 0 where
  pub start : (columns : ℕ) (costs : List ℚ) (rows : List Row)
      → length costs ≡ columns → AreRests columns costs [] rows costs
  pub step : (columns : ℕ) (costs ys : List ℚ) (y : ℚ) (rows : List Row) (row : Row) (before after : List ℚ)
      → length ys ≡ length rows → AreRests columns costs ys rows before → length after ≡ columns
      → ((point : List ℚ) → dot after point ≡ dot before point -ℚ y *ℚ activity row.terms point)
      → AreRests columns costs (ys ++ y ∷ []) (rows ++ row ∷ []) after
  pub unique : (columns : ℕ) (costs ys : List ℚ) (rows : List Row) (first second : List ℚ)
      → AreRests columns costs ys rows first → AreRests columns costs ys rows second → first ≡ second

-- what multipliers and prices show holds of each mixture that satisfies the master rows: it costs at least that number;
-- and where the costs are 0 and the number is above 0, there is none (Farkas)
pub record LeastCostsAreShown : Type 0 where
  pub mixtures : (program : Program) (blocks : Decomposition) (box : List Sides) (among : Option (List Held))
      (costs ys prices point : List ℚ) (least : ℚ)
      → IsDecomposed program blocks → ShowsLeast program blocks box among costs ys prices least
      → IsMixture program blocks box among point → MeetsMaster program blocks point → least ≤ℚ dot costs point
  pub none : (program : Program) (blocks : Decomposition) (box : List Sides) (among : Option (List Held))
      (ys prices point : List ℚ) (least : ℚ)
      → IsDecomposed program blocks → ShowsLeast program blocks box among [] ys prices least → zeroℚ <ℚ least
      → IsMixture program blocks box among point → ¬ MeetsMaster program blocks point

-- the Lagrangian bound: the constant, the sides' sum, the least of what is left on the columns of no block, and a bound
-- for each block; no feasible point in the box costs less, and where one block has no point, there is none
pub record LagrangianBoundHolds : Type 0 where
  pub shows : (program : Program) (blocks : Decomposition) (box : List Sides) (ys rests prices : List ℚ)
      (sides free : ℚ)
      → AreRests (length blocks.columns) program.costs ys (master_rows program blocks) rests
      → side_total ys (master_rows program blocks) ≡ Some sides
      → length box ≡ length blocks.columns
      → least_costs (picked None blocks.columns rests) (picked None blocks.columns box) ≡ Some free
      → ArePrices program blocks box None rests prices
      → ShowsLeast program blocks box None program.costs ys prices ((sides +ℚ free) +ℚ price_total blocks prices)
  pub feasible : (program : Program) (blocks : Decomposition) (box : List Sides) (ys prices point : List ℚ) (least : ℚ)
      → IsDecomposed program blocks → length box ≡ length blocks.columns
      → ShowsLeast program blocks box None program.costs ys prices least
      → IsFeasible program point → IsInBox box point → program.constant +ℚ least ≤ℚ cost_of program point
  pub no_point : (program : Program) (blocks : Decomposition) (box : List Sides) (block : ℕ) (point : List ℚ)
      → IsDecomposed program blocks
      → ((part : List ℚ) → ¬ IsBlockPoint program blocks box block part)
      → IsFeasible program point → ¬ IsInBox box point

-- pricing closes: a mixture of held points is least among all mixtures, where multipliers show that its cost is least
-- among those of held points, and the prices are bounds of all points of the blocks too, and then no feasible point in
-- the box costs less; where there is no mixture of held points, and the same holds at costs 0, there is none at all
pub record PricingCloses : Type 0 where
  pub closed : (program : Program) (blocks : Decomposition) (box : List Sides) (held : List Held)
      (ys rests prices point : List ℚ) (least : ℚ)
      → IsDecomposed program blocks
      → IsMixture program blocks box (Some held) point → MeetsMaster program blocks point
      → ShowsLeast program blocks box (Some held) program.costs ys prices least
      → cost_of program point ≡ program.constant +ℚ least
      → AreRests (length blocks.columns) program.costs ys (master_rows program blocks) rests
      → ArePrices program blocks box None rests prices
      → IsLeastMixture program blocks box (Some held) point (program.constant +ℚ least)
  pub bound : (program : Program) (blocks : Decomposition) (box : List Sides) (among : Option (List Held))
      (mixture point : List ℚ) (cost : ℚ)
      → IsDecomposed program blocks → length box ≡ length blocks.columns
      → IsLeastMixture program blocks box among mixture cost
      → IsFeasible program point → IsInBox box point → cost ≤ℚ cost_of program point
  pub no_point : (program : Program) (blocks : Decomposition) (box : List Sides) (held : List Held)
      (ys rests prices point : List ℚ) (least : ℚ)
      → IsDecomposed program blocks → length box ≡ length blocks.columns
      → ShowsLeast program blocks box (Some held) [] ys prices least → zeroℚ <ℚ least
      → AreRests (length blocks.columns) [] ys (master_rows program blocks) rests
      → ArePrices program blocks box None rests prices
      → IsFeasible program point → ¬ IsInBox box point

-- what is shown of both halves of a node holds of the node, the lesser of the two numbers being a bound; and what is
-- shown of a node with a block's part of a box, and its choices, holds of the block's points
pub record TreesBound : Type 0 where
  pub split : (rows : List Row) (integral : List Bool) (costs : List ℚ) (node : Node) (column : ℕ) (at : ℤ)
      (low high : Option ℚ)
      → CanSplitAt (choice_at node.choices column) (slice_get integral column)
      → IsTreeBound rows integral costs (low_node node column at) low
      → IsTreeBound rows integral costs (high_node node column at) high
      → IsTreeBound rows integral costs node (lesser low high)
  pub block : (program : Program) (blocks : Decomposition) (box : List Sides) (block : ℕ) (node : Node)
      (costs point : List ℚ) (bound : ℚ)
      → node.box ≡ picked (Some block) blocks.columns box
      → node.choices ≡ (conditions_of program blocks block).choices
      → IsTreeBound (conditions_of program blocks block).rows (conditions_of program blocks block).integral costs node
      (Some bound)
      → IsBlockPoint program blocks box block point → bound ≤ℚ dot costs point
  pub none : (program : Program) (blocks : Decomposition) (box : List Sides) (block : ℕ) (node : Node)
      (costs point : List ℚ)
      → node.box ≡ picked (Some block) blocks.columns box
      → node.choices ≡ (conditions_of program blocks block).choices
      → IsTreeBound (conditions_of program blocks block).rows (conditions_of program blocks block).integral costs node
      None
      → ¬ IsBlockPoint program blocks box block point

-- the weights of a block's points sum to 1
abbrev pub WeightsSumToOne : Decomposition → List Held → List ℚ → Type 0
WeightsSumToOne blocks held weights =
    (block : ℕ) → block < blocks.count → total (picked (Some block) (held_owners held) weights) ≡ oneℚ

-- the master as a linear program: values of the columns of no block and weights of held points come to a mixture, at
-- which each linear form, and so the cost and each row, has the sum that it has in the master; and a bound of the
-- master's reduced costs in its box is what multipliers and prices show, where no held point has one below 0
pub record MasterPointsMix : Type 0 where
  pub mixture : (program : Program) (blocks : Decomposition) (box : List Sides) (held : List Held)
      (values weights : List ℚ)
      → IsDecomposed program blocks → length box ≡ length blocks.columns
      → AllByRecursion (λ (h : Held). IsBlockPoint program blocks box h.block h.point) held
      → IsInBox (picked None blocks.columns box) values
      → length weights ≡ length held → AllNonneg weights → WeightsSumToOne blocks held weights
      → IsMixture program blocks box (Some held) (mixed blocks.columns held values weights)
  pub forms : (program : Program) (blocks : Decomposition) (box : List Sides) (held : List Held)
      (form values weights : List ℚ)
      → IsDecomposed program blocks → length box ≡ length blocks.columns
      → AllByRecursion (λ (h : Held). (h.block < blocks.count) × IsBlockPoint program blocks box h.block h.point) held
      → length form ≡ length blocks.columns
      → IsInBox (picked None blocks.columns box) values
      → length weights ≡ length held → WeightsSumToOne blocks held weights
      → dot form (mixed blocks.columns held values weights)
      ≡ dot (master_form blocks.columns form held) (values ++ weights)
  pub shows : (program : Program) (blocks : Decomposition) (box : List Sides) (held : List Held)
      (costs ys rests prices : List ℚ) (sides least : ℚ)
      → length box ≡ length blocks.columns
      → AreRests (length blocks.columns) costs ys (master_rows program blocks) rests
      → side_total ys (master_rows program blocks) ≡ Some sides
      → AllByRecursion (λ (h : Held). zeroℚ ≤ℚ reduced_cost blocks.columns rests prices h) held
      → ((point : List ℚ) → IsInBox (master_box blocks.columns box held) point
      → least ≤ℚ (sides +ℚ price_total blocks prices) +ℚ dot (reduced_costs blocks.columns rests prices held) point)
      → ShowsLeast program blocks box (Some held) costs ys prices least
