use Rattle.std.proofs.lemmas.Grind.{common_steps}
use Rattle.std.proofs.Common.{[], ◌∷◌, sym, subst, arith}
use Rattle.cip_master.specs.TakenPoints.{IsTaken}
use Rattle.cip_price.specs.PriceTasks.{task_at}
use Rattle.cip_price.specs.OfferedPoints.{IsOffered, growth_of}
use Rattle.cip_price.proofs.Offered.{offered_grows, offered_one, full_stays, offered_tells}
use Rattle.cip_price.proofs.offering.offer.Goals as goal

pub returns-in-Offered-clause-offered : goal.returns-in-Offered-clause-offered
returns-in-Offered-clause-offered g c =
    subst (IsOffered (task_at c.args.task.now []) c.args.block (c.args.point.now ∷ []) c.args.pool.now
    c.take_point.new.pool) (sym c.growth_of.ensures)
    (offered_one (task_at c.args.task.now []) c.args.block c.args.point.now c.args.pool.now c.take_point.new.pool
    c.in-Offered.added
    (subst (IsTaken c.args.task.now.program.now c.args.task.now.blocks.now c.args.block c.args.point.now.values.items
    c.args.pool.now c.take_point.new.pool) c.in-Offered.is c.in_ok-taken.ensures.taken))

pub returns-in-Offered-clause-tells : goal.returns-in-Offered-clause-tells
returns-in-Offered-clause-tells g c =
    offered_tells (task_at c.args.task.now []) c.args.block c.args.place c.args.point.now c.args.pool.now
    c.take_point.new.pool c.in-Offered.added (g.A.AskPricer.told c.args.asker.now)
    (subst (IsTaken c.args.task.now.program.now c.args.task.now.blocks.now c.args.block c.args.point.now.values.items
    c.args.pool.now c.take_point.new.pool) c.in-Offered.is c.in_ok-taken.ensures.taken)

pub returns-in-Offered-clause-full : goal.returns-in-Offered-clause-full
returns-in-Offered-clause-full g c =
    full_stays (task_at c.args.task.now []) c.args.block c.args.point.now c.args.pool.now c.take_point.new.pool
    c.in-Offered.added
    (subst (IsTaken c.args.task.now.program.now c.args.task.now.blocks.now c.args.block c.args.point.now.values.items
    c.args.pool.now c.take_point.new.pool) c.in-Offered.is c.in_ok-taken.ensures.taken)

pub returns-in-Offered-clause-grows : goal.returns-in-Offered-clause-grows
returns-in-Offered-clause-grows g c =
    offered_grows (task_at c.args.task.now []) c.args.block (c.args.point.now ∷ []) c.args.pool.now
    c.take_point.new.pool (growth_of c.in-Offered.added)
    (offered_one (task_at c.args.task.now []) c.args.block c.args.point.now c.args.pool.now c.take_point.new.pool
    c.in-Offered.added
    (subst (IsTaken c.args.task.now.program.now c.args.task.now.blocks.now c.args.block c.args.point.now.values.items
    c.args.pool.now c.take_point.new.pool) c.in-Offered.is c.in_ok-taken.ensures.taken))

pub returns-in_ok-dropped-in-Dropped-clause-offered : goal.returns-in_ok-dropped-in-Dropped-clause-offered
returns-in_ok-dropped-in-Dropped-clause-offered g c = grind (arith, common_steps)

pub returns-in_err-dropped-in-Dropped-clause-grows : goal.returns-in_err-dropped-in-Dropped-clause-grows
returns-in_err-dropped-in-Dropped-clause-grows g c = grind (arith, common_steps)

pub returns-in_err-taken-clause-tells : goal.returns-in_err-taken-clause-tells
returns-in_err-taken-clause-tells g c = grind (arith, common_steps)

pub returns-in_err-taken-clause-grows : goal.returns-in_err-taken-clause-grows
returns-in_err-taken-clause-grows g c = grind (arith, common_steps)

pub returns-in_ok-dropped-in-Dropped-clause-tells : goal.returns-in_ok-dropped-in-Dropped-clause-tells
returns-in_ok-dropped-in-Dropped-clause-tells g c = grind (arith, common_steps)

pub returns-in_ok-dropped-in-Dropped-clause-grows : goal.returns-in_ok-dropped-in-Dropped-clause-grows
returns-in_ok-dropped-in-Dropped-clause-grows g c = grind (arith, common_steps)

pub returns-in_ok-dropped-in-Dropped-clause-full : goal.returns-in_ok-dropped-in-Dropped-clause-full
returns-in_ok-dropped-in-Dropped-clause-full g c = grind (arith, common_steps)

pub returns-in_ok-dropped-in-Dropped-clause-task : goal.returns-in_ok-dropped-in-Dropped-clause-task
returns-in_ok-dropped-in-Dropped-clause-task g c = grind (arith, common_steps)

pub returns-in_err-dropped-in-Dropped-clause-full : goal.returns-in_err-dropped-in-Dropped-clause-full
returns-in_err-dropped-in-Dropped-clause-full g c = grind (arith, common_steps)

pub returns-in_err-taken-clause-task : goal.returns-in_err-taken-clause-task
returns-in_err-taken-clause-task g c = grind (arith, common_steps)

pub take_point-requires-clause-block : goal.take_point-requires-clause-block
take_point-requires-clause-block g c = grind (arith, common_steps)

pub returns-in_err-taken-clause-full : goal.returns-in_err-taken-clause-full
returns-in_err-taken-clause-full g c = grind (arith, common_steps)

pub take_point-requires-clause-made : goal.take_point-requires-clause-made
take_point-requires-clause-made g c = grind (arith, common_steps)
