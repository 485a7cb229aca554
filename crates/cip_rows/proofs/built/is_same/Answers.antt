use Rattle.std.proofs.lemmas.Grind.{common_steps}
use Rattle.std.proofs.Common.{arith}
use Rattle.cip_rows.proofs.built.is_same.Goals as goal

pub returns-then-is_same_side-2 : goal.returns-then-is_same_side-2
returns-then-is_same_side-2 c = grind (arith, common_steps)

pub returns-else-is_same_side-2 : goal.returns-else-is_same_side-2
returns-else-is_same_side-2 c = grind (arith, common_steps)
