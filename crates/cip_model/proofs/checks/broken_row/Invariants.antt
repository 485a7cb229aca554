use Rattle.std.proofs.Common.{◌≡◌, drop}
use Rattle.cip_model.specs.Verdicts.{first_broken}
use Rattle.cip_model.proofs.checks.broken_row.Given as goal

abbrev pub invariant-loop-at : goal.invariant-loop-at
invariant-loop-at l = first_broken l.at (drop l.at l.rows) l.point ≡ first_broken 0 l.rows l.point
