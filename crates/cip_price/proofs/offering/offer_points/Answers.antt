use Rattle.std.proofs.lemmas.Grind.{common_steps}
use Rattle.std.proofs.Common.{◌+◌, List, [], length, take, drop, sym, subst, arith}
use Rattle.std.proofs.lemmas.List.{take_all}
use Rattle.std.proofs.lemmas.Result.{MatchResult-from_err}
use Rattle.cip_cert.specs.declared.pricing.BlockPoint.{BlockPoint}
use Rattle.cip_price.specs.PriceTasks.{task_at}
use Rattle.cip_price.specs.Asks.{Told, Tells}
use Rattle.cip_price.specs.OfferedPoints.{IsOffered, drop_of, drops_from}
use Rattle.cip_price.proofs.Offered.{grows_none, grows_by, offered_none, offered_more}
use Rattle.cip_price.proofs.Telling.{tells_none, tells_from, front_part, drops_more, drops_front}
use Rattle.cip_price.proofs.offering.offer_points.Goals as goal

pub loop-at-init : goal.loop-at-init
loop-at-init g c = record {
  offered = offered_none (task_at c.args.task.now []) c.args.block c.args.pool.now;
  tells = tells_none (g.A.AskPricer.told c.args.asker.now);
  grows = grows_none c.args.pool.now;
  task = c.requires.task;
}

pub returns-in_err-next-clause-tells : goal.returns-in_err-next-clause-tells
returns-in_err-next-clause-tells g c =
    let task = task_at c.args.task.now [] in
    let points = c.args.points.now in
    MatchResult-from_err c.from_residual.result _ _ c.from_residual.ensures.0
    (λ _. front_part (g.A.AskPricer.told c.args.asker.now) (g.A.AskPricer.told c.loop-at.asker)
    (g.A.AskPricer.told c.offer.new.asker) (drops_from task c.args.block 0 (take c.loop-at.at points))
    (drops_from task c.args.block (0 + length (take c.loop-at.at points)) (drop c.loop-at.at points))
    (drops_from task c.args.block 0 points) (drops_front task c.args.block points c.loop-at.at)
    c.loop-at.invariant.tells c.in_err-next.ensures.tells)

pub loop-at-preserved : goal.loop-at-preserved
loop-at-preserved g c =
    let task = task_at c.args.task.now [] in
    let points = c.args.points.now in
    record {
      offered =
          subst (IsOffered task c.args.block (take (c.loop-at.at + 1) points) c.args.pool.now c.offer.new.pool)
          (sym c.joint-growth.ensures)
          (offered_more task c.args.block points c.loop-at.at c.index-points-at.result c.args.pool.now c.loop-at.pool
          c.offer.new.pool c.loop-at.growth c.in_ok-next.next c.loop-at-test.true c.index-points-at.is
          c.in_ok-next.ensures.full c.loop-at.invariant.offered c.in_ok-next.ensures.offered);
      tells =
          subst (λ (ts : List Told). Tells (g.A.AskPricer.told c.args.asker.now) ts (g.A.AskPricer.told c.offer.new.asker))
          (sym (drops_more task c.args.block points c.loop-at.at c.index-points-at.result c.loop-at-test.true
          c.index-points-at.is))
          (tells_from (g.A.AskPricer.told c.args.asker.now) (g.A.AskPricer.told c.loop-at.asker)
          (g.A.AskPricer.told c.offer.new.asker) (drops_from task c.args.block 0 (take c.loop-at.at points))
          (drop_of task c.args.block c.loop-at.at c.index-points-at.result) c.loop-at.invariant.tells
          c.in_ok-next.ensures.tells);
      grows =
          grows_by c.args.pool.now c.loop-at.pool c.offer.new.pool c.loop-at.invariant.grows c.in_ok-next.ensures.grows;
      task = c.in_ok-next.ensures.task;
    }

pub returns-in_err-next-clause-grows : goal.returns-in_err-next-clause-grows
returns-in_err-next-clause-grows g c =
    grows_by c.args.pool.now c.loop-at.pool c.offer.new.pool c.loop-at.invariant.grows c.in_err-next.ensures.grows

pub returns-clause-offered : goal.returns-clause-offered
returns-clause-offered g c =
    subst (λ (ps : List BlockPoint). IsOffered (task_at c.args.task.now []) c.args.block ps c.args.pool.now c.loop-at.pool
    c.loop-at.growth) (take_all c.loop-at.at c.args.points.now c.loop-at-test.false) c.loop-at.invariant.offered

pub returns-clause-tells : goal.returns-clause-tells
returns-clause-tells g c =
    subst (λ (ps : List BlockPoint). Tells (g.A.AskPricer.told c.args.asker.now)
    (drops_from (task_at c.args.task.now []) c.args.block 0 ps) (g.A.AskPricer.told c.loop-at.asker))
    (take_all c.loop-at.at c.args.points.now c.loop-at-test.false) c.loop-at.invariant.tells

pub offer-requires-clause-block : goal.offer-requires-clause-block
offer-requires-clause-block g c = grind (arith, common_steps)

pub offer-requires-clause-task : goal.offer-requires-clause-task
offer-requires-clause-task g c = grind (arith, common_steps)

pub returns-in_err-next-clause-task : goal.returns-in_err-next-clause-task
returns-in_err-next-clause-task g c = grind (arith, common_steps)

pub bounds-points-at : goal.bounds-points-at
bounds-points-at g c = grind (arith, common_steps)

pub returns-clause-task : goal.returns-clause-task
returns-clause-task g c = grind (arith, common_steps)

pub returns-clause-grows : goal.returns-clause-grows
returns-clause-grows g c = grind (arith, common_steps)

pub offset_bounds-points-at : goal.offset_bounds-points-at
offset_bounds-points-at g c = grind (arith, common_steps)
