use Rattle.std.proofs.lemmas.Grind.{common_steps}
use Rattle.std.proofs.Common.{arith}
use Rattle.cip_calls.proofs.plugins.Plugins.take_judged.Goals as goal

pub returns-clause-none : goal.returns-clause-none
returns-clause-none g c = grind (arith, common_steps)

pub returns-clause-judged : goal.returns-clause-judged
returns-clause-judged g c = grind (arith, common_steps)

pub returns-clause-frame : goal.returns-clause-frame
returns-clause-frame g c = grind (arith, common_steps)
