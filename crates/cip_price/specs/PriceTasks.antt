-- What pricing is asked of: a program that falls into blocks, and a box of it; beside the points that a pool holds.
use Rattle.std.specs.Prelude.{List}
use Rattle.cip_columns.specs.PoolPoints.{PoolPoint}
use Rattle.cip_master.specs.MasterTasks.{Task}
use Rattle.cip_price.specs.declared.tasks.PriceTask.{PriceTask}

-- the same, with the points that are held
abbrev pub task_at : PriceTask → List PoolPoint → Task
task_at task points = record {
  program = task.program.now;
  kept = task.blocks.now;
  box = task.bounds.now;
  points = points;
}
