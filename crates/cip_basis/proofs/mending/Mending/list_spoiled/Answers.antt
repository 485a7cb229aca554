use Rattle.std.proofs.lemmas.Grind.{common_steps}
use Rattle.std.proofs.Common.{arith}
use Rattle.cip_basis.proofs.mending.Mending.list_spoiled.Goals as goal

pub bounds-rest-items-column : goal.bounds-rest-items-column
bounds-rest-items-column c = grind (arith, common_steps)

pub offset_bounds-rest-items-column : goal.offset_bounds-rest-items-column
offset_bounds-rest-items-column c = grind (arith, common_steps)
