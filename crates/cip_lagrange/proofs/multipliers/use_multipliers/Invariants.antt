use Rattle.std.proofs.Common.{◌≡◌, drop}
use Rattle.cip_lagrange.specs.LagrangeOutcomes.{multipliers_used}
use Rattle.cip_lagrange.proofs.multipliers.use_multipliers.Given as goal

abbrev pub invariant-loop-at : goal.invariant-loop-at
invariant-loop-at l =
    multipliers_used l.rows (drop l.at l.numbers) (drop l.at l.multipliers)
    (record { total = l.total; rests = l.rests })
    ≡ multipliers_used l.rows l.numbers l.multipliers (record { total = l.fn.start; rests = l.fn.rests })
