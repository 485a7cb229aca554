use Rattle.std.proofs.Common.{◌≡◌, false, is_some}
use Rattle.cip_bland.specs.Rule.{way_of, shortest}
use Rattle.cip_simplex.proofs.ways.has_way.Given as goal

abbrev pub invariant-loop-v : goal.invariant-loop-v
invariant-loop-v l = is_some (shortest l.v (way_of l.dict l.j)) ≡ false
