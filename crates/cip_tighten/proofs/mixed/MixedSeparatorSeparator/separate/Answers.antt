use Rattle.std.proofs.lemmas.Grind.{common_steps}
use Rattle.std.proofs.Common.{arith}
use Rattle.cip_tighten.proofs.mixed.MixedSeparatorSeparator.separate.Goals as goal

pub returns : goal.returns
returns c = grind (arith, common_steps)

pub returns-then-not-may_pay : goal.returns-then-not-may_pay
returns-then-not-may_pay c = grind (arith, common_steps)

pub loop-preserved : goal.loop-preserved
loop-preserved c = grind (arith, common_steps)

pub returns-in_err-unless_refused : goal.returns-in_err-unless_refused
returns-in_err-unless_refused c = grind (arith, common_steps)
