use Rattle.std.proofs.Common.{◌≡◌, drop}
use Rattle.cip_model.specs.Verdicts.{first_outside}
use Rattle.cip_master.proofs.checks.outside.Given as goal

abbrev pub invariant-loop-at : goal.invariant-loop-at
invariant-loop-at l = first_outside l.at (drop l.at l.bounds) l.fn.choices (drop l.at l.point) ≡ first_outside 0 l.bounds l.fn.choices l.point
