use Rattle.std.proofs.lemmas.Grind.{common_steps}
use Rattle.std.proofs.Common.{arith}
use Rattle.cip_text.proofs.parts.make_number.Goals as goal

pub returns-else-has_exponent : goal.returns-else-has_exponent
returns-else-has_exponent c = grind (arith, common_steps)

pub returns-then-is_mantissa : goal.returns-then-is_mantissa
returns-then-is_mantissa c = grind (arith, common_steps)

pub returns-else-is_mantissa : goal.returns-else-is_mantissa
returns-else-is_mantissa c = grind (arith, common_steps)
