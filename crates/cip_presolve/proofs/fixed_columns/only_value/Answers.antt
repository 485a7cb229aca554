use Rattle.std.proofs.lemmas.Grind.{common_steps}
use Rattle.std.proofs.Common.{arith}
use Rattle.cip_presolve.proofs.fixed_columns.only_value.Goals as goal

pub returns-else-is_fixed : goal.returns-else-is_fixed
returns-else-is_fixed c = grind (arith, common_steps)

pub returns-then-is_fixed : goal.returns-then-is_fixed
returns-then-is_fixed c = grind (arith, common_steps)
