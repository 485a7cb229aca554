use Rattle.std.proofs.lemmas.Grind.{common_steps}
use Rattle.std.proofs.Common.{arith}
use Rattle.cip_plugin.proofs.boxed.AnyPlugin.call_back.Goals as goal

pub returns-in-Ok-clause-heard : goal.returns-in-Ok-clause-heard
returns-in-Ok-clause-heard c = grind (arith, common_steps)

pub returns-in-Ok-clause-kind : goal.returns-in-Ok-clause-kind
returns-in-Ok-clause-kind c = grind (arith, common_steps)

pub returns-in-Err-clause-heard : goal.returns-in-Err-clause-heard
returns-in-Err-clause-heard c = grind (arith, common_steps)

pub returns-in-Err-clause-kind : goal.returns-in-Err-clause-kind
returns-in-Err-clause-kind c = grind (arith, common_steps)

pub call-requires : goal.call-requires
call-requires c = grind (arith, common_steps)
