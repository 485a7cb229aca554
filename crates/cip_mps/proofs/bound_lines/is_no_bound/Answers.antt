use Rattle.std.proofs.lemmas.Grind.{common_steps}
use Rattle.std.proofs.Common.{arith}
use Rattle.cip_mps.proofs.bound_lines.is_no_bound.Goals as goal

pub returns-then-is_huge : goal.returns-then-is_huge
returns-then-is_huge c = grind (arith, common_steps)

pub returns-in_default : goal.returns-in_default
returns-in_default c = grind (arith, common_steps)

pub returns-then-is_huge-2 : goal.returns-then-is_huge-2
returns-then-is_huge-2 c = grind (arith, common_steps)

pub returns-else-is_huge-2 : goal.returns-else-is_huge-2
returns-else-is_huge-2 c = grind (arith, common_steps)

pub returns-else-is_huge : goal.returns-else-is_huge
returns-else-is_huge c = grind (arith, common_steps)

pub returns-in-SemiContinuous : goal.returns-in-SemiContinuous
returns-in-SemiContinuous c = grind (arith, common_steps)

pub returns-in-Fixed : goal.returns-in-Fixed
returns-in-Fixed c = grind (arith, common_steps)
