use Rattle.std.proofs.Common.{◌≡◌, drop}
use Rattle.cip_model.specs.RayTests.{all_stay}
use Rattle.cip_model.proofs.rays.keeps_bounds.Given as goal

abbrev pub invariant-loop-at : goal.invariant-loop-at
invariant-loop-at l = all_stay (drop l.at l.bounds) (drop l.at l.ray) ≡ all_stay l.bounds l.ray
