use Rattle.std.proofs.Common.{◌≡◌, drop}
use Rattle.cip_model.specs.Verdicts.{first_not_whole}
use Rattle.cip_master.proofs.checks.not_whole.Given as goal

abbrev pub invariant-loop-at : goal.invariant-loop-at
invariant-loop-at l = first_not_whole l.at (drop l.at l.whole) (drop l.at l.point) ≡ first_not_whole 0 l.whole l.point
