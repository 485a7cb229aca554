use Rattle.std.proofs.lemmas.Grind.{common_steps}
use Rattle.std.proofs.Common.{arith}
use Rattle.cip_text.proofs.digits.zeros_at_end.Goals as goal

pub loop-kept-preserved : goal.loop-kept-preserved
loop-kept-preserved c = grind (arith, common_steps)

pub returns-clause-value : goal.returns-clause-value
returns-clause-value c = grind (arith, common_steps)

pub loop-kept-init : goal.loop-kept-init
loop-kept-init c = grind (arith, common_steps)

pub overflow_sub-kept-in-loop-kept : goal.overflow_sub-kept-in-loop-kept
overflow_sub-kept-in-loop-kept c = grind (arith, common_steps)

pub loop-kept-smaller : goal.loop-kept-smaller
loop-kept-smaller c = grind (arith, common_steps)

pub bounds-digits-kept : goal.bounds-digits-kept
bounds-digits-kept c = grind (arith, common_steps)

pub overflow_sub-kept : goal.overflow_sub-kept
overflow_sub-kept c = grind (arith, common_steps)

pub returns-clause-within : goal.returns-clause-within
returns-clause-within c = grind (arith, common_steps)

pub overflow_sub-result : goal.overflow_sub-result
overflow_sub-result c = grind (arith, common_steps)
