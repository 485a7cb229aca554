use Rattle.std.proofs.Common.{◌≡◌, drop}
use Rattle.cip_model.specs.RayTests.{all_still}
use Rattle.cip_model.proofs.rays.keeps_wholes.Given as goal

abbrev pub invariant-loop-at : goal.invariant-loop-at
invariant-loop-at l = all_still (drop l.at l.whole) (drop l.at l.ray) ≡ all_still l.whole l.ray
