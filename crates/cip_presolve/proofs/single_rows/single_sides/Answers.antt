use Rattle.std.proofs.lemmas.Grind.{common_steps}
use Rattle.std.proofs.Common.{arith}
use Rattle.cip_presolve.proofs.single_rows.single_sides.Goals as goal

pub divided-requires : goal.divided-requires
divided-requires c = grind (arith, common_steps)

pub returns-else-whole : goal.returns-else-whole
returns-else-whole c = grind (arith, common_steps)

pub returns-then-whole : goal.returns-then-whole
returns-then-whole c = grind (arith, common_steps)
