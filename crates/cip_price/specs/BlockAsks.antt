-- What a pricer's answer for a block comes to: what the check of its tree shows, and what becomes of the pool.
use Rattle.std.specs.Prelude.{◌≡◌, ℕ, ◌<◌, Bool, true, false, List, [], ◌∷◌, length, Option, None, Some, Result, Ok, Err}
use Rattle.cip_rational.specs.Rational.{ℚ, le_test}
use Rattle.cip_problem.specs.Log.{Node}
use Rattle.cip_problem.specs.WellFormed.{columns}
use Rattle.cip_pricing.specs.Decomposition.{conditions_of, picked}
use Rattle.cip_cert.specs.declared.pricing.BoundTree.{BoundTree}
use Rattle.cip_cert.specs.declared.pricing.BlockPoint.{BlockPoint}
use Rattle.cip_cert.specs.declared.pricing.Priced.{Priced}
use Rattle.cip_columns.specs.PoolPoints.{PoolPoint}
use Rattle.cip_lagrange.specs.Decompositions.{owners_in}
use Rattle.cip_lagrange.specs.declared.answers.TreeBound.{TreeBound}
use Rattle.cip_lagrange.specs.declared.answers.TreeBound.TheVariants.{Finite, NoPoint}
use Rattle.cip_lagrange.specs.declared.answers.TreeFault.{TreeFault}
use Rattle.cip_lagrange.specs.TreeOutcomes.{Asked as TreeAsked, node_in, tree_outcome}
use Rattle.cip_lagrange.specs.TreeMeaning.{own_rows}
use Rattle.cip_master.specs.MasterTasks.{Task}
use Rattle.cip_price.specs.Asks.{Asked, Told, Asks, Tells, MayTellTo}
use Rattle.cip_price.specs.OfferedPoints.{IsOffered, drops_from}
use Rattle.cip_price.specs.declared.block_answers.Accepted.{Accepted}
use Rattle.cip_price.specs.declared.block_answers.BlockAnswer.{BlockAnswer}
use Rattle.cip_price.specs.declared.asks.BlockAsk.{BlockAsk}

-- ---- what is asked

-- what is left of the costs of a block's columns
abbrev pub costs_in : Task → List ℚ → ℕ → List ℚ
costs_in task rests block = picked (Some block) task.kept.column_owners.items rests

-- a block's part of the box, with the program's choices
abbrev pub block_node : Task → ℕ → Node
block_node task block = record {
  number = 0;
  box = picked (Some block) task.kept.column_owners.items task.box;
  choices = (conditions_of task.program (owners_in task.kept) block).choices;
  bound = None;
}

-- the ask of a block at these costs of its columns, in its part of the box, with its answer
abbrev pub ask_at : Task → List ℚ → ℕ → Option Priced → Asked
ask_at task costs block answer = record {
  block = block;
  costs = costs;
  box = (block_node task block).box;
  answer = answer;
}

-- that at what is left of the costs
abbrev pub ask_of : Task → List ℚ → ℕ → Option Priced → Asked
ask_of task rests block answer = ask_at task (costs_in task rests block) block answer

-- the points and the tree of an answer
abbrev pub points_in : Option Priced → List BlockPoint
points_in None = []
points_in (Some priced) = priced.points.items

abbrev pub tree_in : Option Priced → Option BoundTree
tree_in None = None
tree_in (Some priced) = priced.tree

-- what is told of an ask: it, and right behind it each point of its answer that is dropped, in order
abbrev pub told_of : Task → Asked → List Told
told_of task asked = Asks asked ∷ drops_from task asked.block 0 (points_in asked.answer)

-- what a block is asked: it is a block of the program, with a cost for each of its columns, in its part of the box
pub record IsBlockAsk (task : Task) (ask : BlockAsk) : Type 0 where
  pub is_block : ask.block < length task.kept.subproblems.items
  pub region : node_in ask.region ≡ block_node task ask.block
  pub costs : length ask.costs.items ≡ length (block_node task ask.block).box

-- ---- trees

-- what a tree is checked with: the block's rows alone, at these costs of its columns
abbrev pub tree_asked : Task → List ℚ → ℕ → TreeAsked
tree_asked task costs block = record {
  lent = own_rows (conditions_of task.program (owners_in task.kept) block).rows;
  integral = (conditions_of task.program (owners_in task.kept) block).integral;
  room = columns task.program;
  costs = costs;
}

abbrev pub bound_if_ok : Result TreeBound TreeFault → Option TreeBound
bound_if_ok (Ok bound) = Some bound
bound_if_ok (Err fault) = None

-- what the check of a tree shows of the block's points in the box, where it accepts it
abbrev pub shown_by : Task → List ℚ → ℕ → Option BoundTree → Option TreeBound
shown_by task costs block None = None
shown_by task costs block (Some tree) =
    bound_if_ok (tree_outcome (tree_asked task costs block) 1 tree (block_node task block))

-- what the tree of an ask shows
abbrev pub shown_in : Task → Asked → Option TreeBound
shown_in task asked = shown_by task asked.costs asked.block (tree_in asked.answer)

-- what is shown closes a block at a price: there is no point, or none costs less
abbrev pub closes : ℚ → Option TreeBound → Bool
closes price None = false
closes price (Some NoPoint) = true
closes price (Some (Finite bound)) = le_test price bound

-- ---- an answer

-- the tree that was accepted is that of the answer, with what it shows
pub record IsAccepted (task : Task) (costs : List ℚ) (block : ℕ) (tree : Option BoundTree) (accepted : Accepted)
    : Type 0 where
  pub tree_is : tree ≡ Some accepted.tree
  pub bound_is : shown_by task costs block tree ≡ Some accepted.bound

-- what is shown of a block
abbrev pub bound_in : Option Accepted → Option TreeBound
bound_in None = None
bound_in (Some accepted) = Some accepted.bound

-- the tree of an answer is accepted where its check says so, and else there is none
abbrev pub AcceptsTree : Task → List ℚ → ℕ → Option BoundTree → Option Accepted → Type 0
AcceptsTree task costs block tree None = shown_by task costs block tree ≡ None
AcceptsTree task costs block tree (Some accepted) = IsAccepted task costs block tree accepted

-- what came of an answer for a block
pub record IsBlockAnswer (task : Task) (costs : List ℚ) (block : ℕ) (answer : Option Priced)
    (before after : List PoolPoint) (found : BlockAnswer) : Type 0 where
  pub offered : IsOffered task block (points_in answer) before after found.growth
  pub accepted : AcceptsTree task costs block (tree_in answer) found.accepted

-- a pricer answered this for a block at these costs, told so, with the points that were dropped, and this came of it
pub record AnswersBlock (task : Task) (costs : List ℚ) (block : ℕ) (told telling : Option (List Told))
    (before after : List PoolPoint) (found : BlockAnswer) : Type 0 where
  pub answer : Option Priced
  pub tells : Tells told (told_of task (ask_at task costs block answer)) telling
  pub comes : IsBlockAnswer task costs block answer before after found

-- it told a front part of that, or tells nothing any more
pub record MayAnswer (task : Task) (costs : List ℚ) (block : ℕ) (told telling : Option (List Told)) : Type 0 where
  pub answer : Option Priced
  pub tells : MayTellTo [] (told_of task (ask_at task costs block answer)) told telling
