use Rattle.std.proofs.lemmas.Grind.{common_steps}
use Rattle.std.proofs.Common.{arith}
use Rattle.cip_calls.proofs.plugins.Plugins.new.Goals as goal

pub returns-clause-judged : goal.returns-clause-judged
returns-clause-judged g c = grind (arith, common_steps)
