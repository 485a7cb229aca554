use Rattle.std.proofs.lemmas.Grind.{common_steps}
use Rattle.std.proofs.Common.{arith}
use Rattle.cip_input.proofs.words.begins_above_zero.Goals as goal

pub bounds-text-0 : goal.bounds-text-0
bounds-text-0 c = grind (arith, common_steps)

pub returns-then-first-ge49 : goal.returns-then-first-ge49
returns-then-first-ge49 c = grind (arith, common_steps)

pub returns-else-first-ge49 : goal.returns-else-first-ge49
returns-else-first-ge49 c = grind (arith, common_steps)

pub returns-in-empty : goal.returns-in-empty
returns-in-empty c = grind (arith, common_steps)
