use Rattle.std.proofs.Common.{[]}
use Rattle.cip_master.specs.MasterTasks.{IsTask}
use Rattle.cip_price.specs.PriceTasks.{task_at}
use Rattle.cip_price.specs.OfferedPoints.{Grows}
use Rattle.cip_price.specs.Worked.{IsReady, BestHolds}
use Rattle.cip_price.proofs.Led.{IsRanTo}
use Rattle.cip_price.proofs.pricing.price_in_rounds.Given as goal

abbrev pub invariant-loop-round : goal.invariant-loop-round
invariant-loop-round g l = record {
  ran : IsRanTo l.limits.moves (task_at l.task []) (g.A.AskPricer.told l.fn.asker) (g.A.AskPricer.told l.asker)
      l.fn.pool l.pool l.work.best l._round;
  ready : IsReady (task_at l.task l.pool) l.work;
  best : BestHolds (task_at l.task []) l.work.best;
  grows : Grows l.fn.pool l.pool;
  task : IsTask (task_at l.task l.pool);
}
