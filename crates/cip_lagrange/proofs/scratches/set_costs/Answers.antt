use Rattle.std.proofs.Common.{◌≡◌, ◌<◌, length, arith}
use Rattle.cip_lagrange.proofs.Ready.{set_step}
use Rattle.cip_lagrange.proofs.scratches.set_costs.Goals as goal

pub loop-at-preserved : goal.loop-at-preserved
loop-at-preserved c =
    let inside : c.loop-at.at < length c.args.numbers.now = omega arith in
    let long : length c.loop-at.costs ≡ length c.args.numbers.now =
    omega (arith, c.loop-at.auto.costs, c.requires.long) in
    set_step c.loop-at.costs c.args.rests.now c.args.numbers.now c.loop-at.at c.index-rests-numbers.result long inside
    (c.requires.numbers c.loop-at.at 0 inside) c.index-rests-numbers.is c.loop-at.invariant
