use Rattle.std.proofs.lemmas.Grind.{common_steps}
use Rattle.std.proofs.Common.{arith}
use Rattle.cip_guides.proofs.pseudo_costs.best_column.Goals as goal

pub bounds-point-column : goal.bounds-point-column
bounds-point-column c = grind (arith, common_steps)

pub offset_bounds-point-column : goal.offset_bounds-point-column
offset_bounds-point-column c = grind (arith, common_steps)
