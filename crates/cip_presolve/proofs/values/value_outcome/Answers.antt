use Rattle.std.proofs.lemmas.Grind.{common_steps}
use Rattle.std.proofs.Common.{arith}
use Rattle.cip_presolve.proofs.values.value_outcome.Goals as goal

pub returns-in-None : goal.returns-in-None
returns-in-None c = grind (arith, common_steps)

pub bounds-point-column : goal.bounds-point-column
bounds-point-column c = grind (arith, common_steps)

pub offset_bounds-point-column : goal.offset_bounds-point-column
offset_bounds-point-column c = grind (arith, common_steps)

pub returns-after-get : goal.returns-after-get
returns-after-get c = grind (arith, common_steps)

pub get-requires : goal.get-requires
get-requires c = grind (arith, common_steps)
