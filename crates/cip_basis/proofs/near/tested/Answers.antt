use Rattle.std.proofs.lemmas.Grind.{common_steps}
use Rattle.std.proofs.Common.{arith}
use Rattle.cip_basis.proofs.near.tested.Goals as goal

pub returns-then-is_point-clause-point : goal.returns-then-is_point-clause-point
returns-then-is_point-clause-point c = grind (arith, common_steps)

pub returns-then-is_point-clause-long : goal.returns-then-is_point-clause-long
returns-then-is_point-clause-long c = grind (arith, common_steps)

pub returns-in_err-point-clause-point : goal.returns-in_err-point-clause-point
returns-in_err-point-clause-point c = grind (arith, common_steps)

pub returns-in_err-point-clause-long : goal.returns-in_err-point-clause-long
returns-in_err-point-clause-long c = grind (arith, common_steps)

pub is_point-requires-clause-long : goal.is_point-requires-clause-long
is_point-requires-clause-long c = grind (arith, common_steps)

pub returns-else-len-clause-point : goal.returns-else-len-clause-point
returns-else-len-clause-point c = grind (arith, common_steps)

pub returns-else-len-clause-long : goal.returns-else-len-clause-long
returns-else-len-clause-long c = grind (arith, common_steps)
