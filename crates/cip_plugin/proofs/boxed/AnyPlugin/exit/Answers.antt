use Rattle.std.proofs.lemmas.Grind.{common_steps}
use Rattle.std.proofs.Common.{arith}
use Rattle.cip_plugin.proofs.boxed.AnyPlugin.exit.Goals as goal

pub returns-clause-heard : goal.returns-clause-heard
returns-clause-heard c = grind (arith, common_steps)

pub returns-clause-kind : goal.returns-clause-kind
returns-clause-kind c = grind (arith, common_steps)

pub call_back-answer-requires : goal.call_back-answer-requires
call_back-answer-requires c = grind (arith, common_steps)
