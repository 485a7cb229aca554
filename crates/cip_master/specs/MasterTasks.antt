-- What the master program is asked of: a program that falls into blocks, a box of it, and the points that a pool holds.
use Rattle.std.specs.Prelude.{◌≡◌, List, length, map}
use Rattle.cip_problem.specs.Program.{Sides, Program}
use Rattle.cip_problem.specs.WellFormed.{columns}
use Rattle.cip_pricing.specs.Mixtures.{Held}
use Rattle.cip_columns.specs.PoolPoints.{PoolPoint, held_of}
use Rattle.cip_lagrange.specs.Decompositions.{IsDecompositionOf}
use Rattle.cip_lagrange.specs.declared.parts.Decomposed.{Decomposed}
use Rattle.cip_master.specs.KeptMasters.{held_in, ArePoolPoints}
use Rattle.cip_master.specs.declared.tasks.MasterTask.{MasterTask}

pub record Task : Type 0 where
  pub program : Program
  pub kept : Decomposed
  pub box : List Sides
  pub points : List PoolPoint

-- what is lent
abbrev pub task_of : MasterTask → Task
task_of task = record {
  program = task.program.now;
  kept = task.blocks.now;
  box = task.bounds.now;
  points = task.pool.now;
}

-- the program falls into the blocks, the box has sides for each column, and each point is one of a block in the
-- program's own sides
pub record IsTask (task : Task) : Type 0 where
  pub made : IsDecompositionOf task.program task.kept
  pub box_ : length task.box ≡ columns task.program
  pub points : ArePoolPoints task.program task.kept task.points

-- the points that lie in the box, by rising id; and without their ids
abbrev pub points_in : Task → List PoolPoint
points_in task = held_in task.kept.column_owners.items task.box task.points

abbrev pub held_by : Task → List Held
held_by task = map held_of (points_in task)
