use Rattle.std.proofs.lemmas.Grind.{common_steps}
use Rattle.std.proofs.Common.{arith}
use Rattle.cip_plugin.proofs.boxed.AnyPluginTells.kind.Goals as goal

pub returns-in-BranchRule : goal.returns-in-BranchRule
returns-in-BranchRule c = grind (arith, common_steps)

pub returns-in-ConsHandler : goal.returns-in-ConsHandler
returns-in-ConsHandler c = grind (arith, common_steps)

pub returns-in-EventHandler : goal.returns-in-EventHandler
returns-in-EventHandler c = grind (arith, common_steps)

pub returns-in-Heuristic : goal.returns-in-Heuristic
returns-in-Heuristic c = grind (arith, common_steps)

pub returns-in-Pricer : goal.returns-in-Pricer
returns-in-Pricer c = grind (arith, common_steps)

pub returns-in-Propagator : goal.returns-in-Propagator
returns-in-Propagator c = grind (arith, common_steps)

pub returns-in-Separator : goal.returns-in-Separator
returns-in-Separator c = grind (arith, common_steps)
