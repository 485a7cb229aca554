use Rattle.std.proofs.Common.{◌≡◌, None}
use Rattle.cip_bland.specs.Rule.{way_of, shortest}
use Rattle.cip_bland.specs.MoveList.{first_wide_way}
use Rattle.cip_simplex.proofs.ways.shortest_way.Given as goal

abbrev pub invariant-loop-v : goal.invariant-loop-v
invariant-loop-v l = record {
  fits : first_wide_way l.dict l.j l.v ≡ None;
  best : l.best ≡ shortest l.v (way_of l.dict l.j);
}
