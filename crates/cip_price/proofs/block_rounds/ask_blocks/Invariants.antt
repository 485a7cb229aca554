use Rattle.std.proofs.Common.{◌≡◌, ◌≢◌, [], length}
use Rattle.cip_master.specs.MasterTasks.{IsTask}
use Rattle.cip_price.specs.PriceTasks.{task_at}
use Rattle.cip_price.specs.OfferedPoints.{Grows}
use Rattle.cip_price.specs.declared.offering.Growth.TheVariants.{Full}
use Rattle.cip_price.proofs.Rounded.{IsRoundTo}
use Rattle.cip_price.proofs.block_rounds.ask_blocks.Given as goal

abbrev pub invariant-loop-at : goal.invariant-loop-at
invariant-loop-at g l = record {
  round : IsRoundTo (task_at l.fn.task []) l.shown.rests.items l.shown.prices.items (g.A.AskPricer.told l.fn.asker)
      (g.A.AskPricer.told l.asker) l.fn.pool l.pool l.round l.at;
  going : l.round.growth ≢ Full;
  grows : Grows l.fn.pool l.pool;
  task : IsTask (task_at l.fn.task l.pool);
  room : length l.scratch.row.entries ≡ length l.fn.scratch.row.entries;
}
