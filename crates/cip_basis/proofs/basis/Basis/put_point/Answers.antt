use Rattle.std.proofs.lemmas.Grind.{common_steps}
use Rattle.std.proofs.Common.{arith}
use Rattle.cip_basis.proofs.basis.Basis.put_point.Goals as goal

pub bounds-column-items-place : goal.bounds-column-items-place
bounds-column-items-place c = grind (arith, common_steps)

pub offset_bounds-column-items-place : goal.offset_bounds-column-items-place
offset_bounds-column-items-place c = grind (arith, common_steps)

pub get-requires : goal.get-requires
get-requires c = grind (arith, common_steps)

pub loop-place-preserved : goal.loop-place-preserved
loop-place-preserved c = grind (arith, common_steps)

pub loop-place-init : goal.loop-place-init
loop-place-init c = grind (arith, common_steps)
