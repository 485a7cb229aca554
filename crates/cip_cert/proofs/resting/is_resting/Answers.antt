use Rattle.std.proofs.lemmas.Grind.{common_steps}
use Rattle.std.proofs.Common.{arith}
use Rattle.cip_cert.proofs.NamedRows.{resting_at}
use Rattle.cip_cert.specs.Pool.{pool_row}
use Rattle.cip_cert.proofs.resting.is_resting.Goals as goal

pub bounds-pool-place : goal.bounds-pool-place
bounds-pool-place c = grind (arith, common_steps)

pub bounds-pool-place-in-Some : goal.bounds-pool-place-in-Some
bounds-pool-place-in-Some c = grind (arith, common_steps)

pub offset_bounds-pool-place : goal.offset_bounds-pool-place
offset_bounds-pool-place c = grind (arith, common_steps)

pub returns-in-None : goal.returns-in-None
returns-in-None c = grind (arith, common_steps)

pub returns-in-Some : goal.returns-in-Some
returns-in-Some c =
    resting_at c.args.pool.now c.in-Some.place c.index-pool-place.result (pool_row c.args.pool.now c.args.id)
    c.in-Some.ensures.0 c.in-Some.ensures.1
