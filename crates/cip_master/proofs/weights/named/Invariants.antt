use Rattle.std.proofs.Common.{◌≡◌, map, take}
use Rattle.cip_master.specs.declared.answers.PointWeight.{PointWeight}
use Rattle.cip_master.proofs.weights.named.Given as goal

abbrev pub invariant-loop-at : goal.invariant-loop-at
invariant-loop-at l = record {
  ids : map (λ (w : PointWeight). w.id) l.named.items ≡ take l.at l.ids;
  weights : map (λ (w : PointWeight). w.weight) l.named.items ≡ take l.at l.weights;
}
