use Rattle.std.proofs.Common.{◌≡◌, take}
use Rattle.cip_lagrange.specs.Numbers.{found}
use Rattle.cip_lagrange.proofs.scratches.set_costs.Given as goal

abbrev pub invariant-loop-at : goal.invariant-loop-at
invariant-loop-at l = take l.at l.costs ≡ found l.rests (take l.at l.numbers)
