use Rattle.std.proofs.Common.{◌≡◌, take}
use Rattle.cip_lagrange.specs.Numbers.{found}
use Rattle.cip_price.proofs.asks.costs_at.Given as goal

abbrev pub invariant-loop-number : goal.invariant-loop-number
invariant-loop-number l = l.costs.items ≡ found l.rests (take l.number-index l.numbers)
