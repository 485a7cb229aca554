use Rattle.std.proofs.Common.{◌≡◌, drop}
use Rattle.cip_lagrange.specs.LagrangeOutcomes.{free_added}
use Rattle.cip_lagrange.proofs.free.add_free.Given as goal

abbrev pub invariant-loop-number : goal.invariant-loop-number
invariant-loop-number l =
    free_added l.rests l.bounds (drop l.number-index l.numbers) l.sum
    ≡ free_added l.rests l.bounds l.numbers l.fn.start
