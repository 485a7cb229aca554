use Rattle.std.proofs.lemmas.Grind.{common_steps}
use Rattle.std.proofs.Common.{arith}
use Rattle.cip_presolve.proofs.lone.add.Goals as goal

pub part_some-counts : goal.part_some-counts
part_some-counts c = grind (arith, common_steps)

pub part_none-counts : goal.part_none-counts
part_none-counts c = grind (arith, common_steps)

pub offset_bounds-term-items-term-index : goal.offset_bounds-term-items-term-index
offset_bounds-term-items-term-index c = grind (arith, common_steps)
