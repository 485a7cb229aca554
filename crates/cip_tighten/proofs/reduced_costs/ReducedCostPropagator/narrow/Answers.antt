use Rattle.std.proofs.lemmas.Grind.{common_steps}
use Rattle.std.proofs.Common.{arith}
use Rattle.cip_tighten.proofs.reduced_costs.ReducedCostPropagator.narrow.Goals as goal

pub offset_bounds-item-items-item-index : goal.offset_bounds-item-items-item-index
offset_bounds-item-items-item-index c = grind (arith, common_steps)

pub get-requires : goal.get-requires
get-requires c = grind (arith, common_steps)
