use Rattle.std.proofs.Common.{◌≡◌, take}
use Rattle.cip_lagrange.specs.Numbers.{found}
use Rattle.cip_master.proofs.first.sides_at.Given as goal

abbrev pub invariant-loop-number : goal.invariant-loop-number
invariant-loop-number l = l.kept ≡ found l.bounds (take l.number-index l.numbers)
