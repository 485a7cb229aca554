use Rattle.std.proofs.lemmas.Grind.{common_steps}
use Rattle.std.proofs.Common.{arith}
use Rattle.cip_plugin.proofs.called.call.Goals as goal

pub returns-in-Err-ask-clause-given : goal.returns-in-Err-ask-clause-given
returns-in-Err-ask-clause-given g c = grind (arith, common_steps)

pub returns-in-Err-ask-clause-heard : goal.returns-in-Err-ask-clause-heard
returns-in-Err-ask-clause-heard g c = grind (arith, common_steps)

pub returns-in-Err-clause-heard : goal.returns-in-Err-clause-heard
returns-in-Err-clause-heard g c = grind (arith, common_steps)

pub returns-in-Ok-ask-clause-given : goal.returns-in-Ok-ask-clause-given
returns-in-Ok-ask-clause-given g c = grind (arith, common_steps)

pub returns-in-Ok-ask-clause-heard : goal.returns-in-Ok-ask-clause-heard
returns-in-Ok-ask-clause-heard g c = grind (arith, common_steps)

pub returns-in-Ok-clause-heard : goal.returns-in-Ok-clause-heard
returns-in-Ok-clause-heard g c = grind (arith, common_steps)

pub returns-in-Err-clause-given : goal.returns-in-Err-clause-given
returns-in-Err-clause-given g c = grind (arith, common_steps)

pub returns-in-Ok-clause-given : goal.returns-in-Ok-clause-given
returns-in-Ok-clause-given g c = grind (arith, common_steps)

pub ask-requires : goal.ask-requires
ask-requires g c = grind (arith, common_steps)
