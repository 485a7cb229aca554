use Rattle.std.proofs.lemmas.Grind.{common_steps}
use Rattle.std.proofs.Common.{arith}
use Rattle.cip_calls.proofs.silence.NoPluginsAsks.ask_all.Goals as goal

pub returns-clause-asked : goal.returns-clause-asked
returns-clause-asked c = grind (arith, common_steps)

pub returns-clause-run : goal.returns-clause-run
returns-clause-run c = grind (arith, common_steps)

pub returns-clause-seated : goal.returns-clause-seated
returns-clause-seated c = grind (arith, common_steps)

pub returns-clause-sound : goal.returns-clause-sound
returns-clause-sound c = grind (arith, common_steps)
