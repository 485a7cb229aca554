use Rattle.std.proofs.Common.{[], take}
use Rattle.cip_master.specs.MasterTasks.{IsTask}
use Rattle.cip_price.specs.PriceTasks.{task_at}
use Rattle.cip_price.specs.Asks.{Tells}
use Rattle.cip_price.specs.OfferedPoints.{Grows, IsOffered, drops_from}
use Rattle.cip_price.proofs.offering.offer_points.Given as goal

abbrev pub invariant-loop-at : goal.invariant-loop-at
invariant-loop-at g l = record {
  offered : IsOffered (task_at l.task []) l.block (take l.at l.points) l.fn.pool l.pool l.growth;
  tells : Tells (g.A.AskPricer.told l.fn.asker) (drops_from (task_at l.task []) l.block 0 (take l.at l.points))
      (g.A.AskPricer.told l.asker);
  grows : Grows l.fn.pool l.pool;
  task : IsTask (task_at l.task l.pool);
}
