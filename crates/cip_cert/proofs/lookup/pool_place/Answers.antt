use Rattle.std.proofs.lemmas.Grind.{common_steps}
use Rattle.std.proofs.Common.{arith}
use Rattle.cip_cert.proofs.Pools.{found, none_between, other_default}
use Rattle.cip_cert.proofs.lookup.pool_place.Goals as goal
use Rattle.cip_cert.proofs.lookup.pool_place.Goals.{else-place-pool-via-then-place-pool+else-pool-place, else-place-pool-via-else-place-pool}

pub returns-then-pool-place : goal.returns-then-pool-place
returns-then-pool-place c =
    (c.if-place-pool.true, found c.args.pool.now c.place_from-place.result c.args.id c.index-pool-place.result c.place_from-place.ensures.before c.if-place-pool.true c.if-pool-place.true)

pub returns-else-place-pool : goal.returns-else-place-pool
returns-else-place-pool c =
    none_between c.args.pool.now c.place_from-place.result c.args.id c.requires c.place_from-place.ensures.before c.place_from-place.ensures.after
    (elim c.else-place-pool.branch [
      | else-place-pool-via-then-place-pool+else-pool-place w ↦ other_default c.args.pool.now c.place_from-place.result c.args.id w.index-pool-place.result w.if-pool-place.false
      | else-place-pool-via-else-place-pool w ↦ λ d l. absurd (omega (arith, l, w.if-place-pool.false))
    ])

pub bounds-pool-place-then-place-pool : goal.bounds-pool-place-then-place-pool
bounds-pool-place-then-place-pool c = grind (arith, common_steps)

pub bounds-pool-place : goal.bounds-pool-place
bounds-pool-place c = grind (arith, common_steps)

pub offset_bounds-pool-place : goal.offset_bounds-pool-place
offset_bounds-pool-place c = grind (arith, common_steps)
