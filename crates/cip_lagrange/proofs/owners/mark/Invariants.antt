use Rattle.std.proofs.Common.{◌≡◌, drop}
use Rattle.cip_lagrange.specs.Owners.{marked}
use Rattle.cip_lagrange.proofs.owners.mark.Given as goal

abbrev pub invariant-loop-number : goal.invariant-loop-number
invariant-loop-number l =
    marked (drop l.number-index l.numbers) l.block l.owners ≡ marked l.numbers l.block l.fn.owners
