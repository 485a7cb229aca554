use Rattle.std.proofs.lemmas.Grind.{common_steps}
use Rattle.std.proofs.Common.{arith}
use Rattle.cip_lin.proofs.rows.refusal.Goals as goal

pub returns-then-is_zero : goal.returns-then-is_zero
returns-then-is_zero c = grind (arith, common_steps)

pub returns-else-is_zero : goal.returns-else-is_zero
returns-else-is_zero c = grind (arith, common_steps)

pub returns-then-term-last : goal.returns-then-term-last
returns-then-term-last c = grind (arith, common_steps)
