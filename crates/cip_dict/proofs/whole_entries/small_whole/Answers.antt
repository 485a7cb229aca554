use Rattle.std.proofs.lemmas.Grind.{common_steps}
use Rattle.std.proofs.Common.{arith}
use Rattle.cip_dict.proofs.whole_entries.small_whole.Goals as goal

pub overflow_cast-result : goal.overflow_cast-result
overflow_cast-result c = grind (arith, common_steps)

pub returns : goal.returns
returns c = grind (arith, common_steps)

pub returns-then-denominator-ne1 : goal.returns-then-denominator-ne1
returns-then-denominator-ne1 c = grind (arith, common_steps)
