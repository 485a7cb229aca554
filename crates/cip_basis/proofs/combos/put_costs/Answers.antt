use Rattle.std.proofs.lemmas.Grind.{common_steps}
use Rattle.std.proofs.Common.{arith}
use Rattle.cip_basis.proofs.combos.put_costs.Goals as goal

pub bounds-columns-place : goal.bounds-columns-place
bounds-columns-place c = grind (arith, common_steps)

pub offset_bounds-columns-place : goal.offset_bounds-columns-place
offset_bounds-columns-place c = grind (arith, common_steps)
