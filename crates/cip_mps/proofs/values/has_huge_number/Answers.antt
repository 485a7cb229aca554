use Rattle.std.proofs.lemmas.Grind.{common_steps}
use Rattle.std.proofs.Common.{arith}
use Rattle.cip_mps.proofs.values.has_huge_number.Goals as goal

pub returns-else-is_huge : goal.returns-else-is_huge
returns-else-is_huge c = grind (arith, common_steps)

pub returns-then-is_huge : goal.returns-then-is_huge
returns-then-is_huge c = grind (arith, common_steps)
