use Rattle.std.proofs.lemmas.Grind.{common_steps}
use Rattle.std.proofs.Common.{arith}
use Rattle.cip_tighten.proofs.gains.has_whole_costs.Goals as goal

pub bounds-cost-items-column : goal.bounds-cost-items-column
bounds-cost-items-column c = grind (arith, common_steps)

pub offset_bounds-cost-items-column : goal.offset_bounds-cost-items-column
offset_bounds-cost-items-column c = grind (arith, common_steps)

pub get-requires : goal.get-requires
get-requires c = grind (arith, common_steps)
