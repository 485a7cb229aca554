use Rattle.std.proofs.lemmas.Grind.{common_steps}
use Rattle.std.proofs.Common.{arith}
use Rattle.cip_tighten.proofs.cost_rows.CostRow.add.Goals as goal

pub part_some-self : goal.part_some-self
part_some-self c = grind (arith, common_steps)

pub offset_bounds-term-items-term-index : goal.offset_bounds-term-items-term-index
offset_bounds-term-items-term-index c = grind (arith, common_steps)

pub part_none-self : goal.part_none-self
part_none-self c = grind (arith, common_steps)

pub loop-term-preserved : goal.loop-term-preserved
loop-term-preserved c = grind (arith, common_steps)
