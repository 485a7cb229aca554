use Rattle.std.proofs.lemmas.Grind.{common_steps}
use Rattle.std.proofs.Common.{arith}
use Rattle.cip_guides.proofs.exchanges.Placed.go.Goals as goal

pub part_some-self-in-Some-get_mut-2 : goal.part_some-self-in-Some-get_mut-2
part_some-self-in-Some-get_mut-2 c = grind (arith, common_steps)

pub part_none-self-in_default-get_mut : goal.part_none-self-in_default-get_mut
part_none-self-in_default-get_mut c = grind (arith, common_steps)

pub get-requires : goal.get-requires
get-requires c = grind (arith, common_steps)

pub offset_bounds-number-items-number-index : goal.offset_bounds-number-items-number-index
offset_bounds-number-items-number-index c = grind (arith, common_steps)

pub part_some-self : goal.part_some-self
part_some-self c = grind (arith, common_steps)

pub loop-number-preserved : goal.loop-number-preserved
loop-number-preserved c = grind (arith, common_steps)

pub overflow_cast-col : goal.overflow_cast-col
overflow_cast-col c = grind (arith, common_steps)

pub part_none-self : goal.part_none-self
part_none-self c = grind (arith, common_steps)
