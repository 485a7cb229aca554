use Rattle.std.proofs.lemmas.Grind.{common_steps}
use Rattle.std.proofs.Common.{arith}
use Rattle.cip_cert.proofs.resting.names_resting.Goals as goal

pub returns-in-Pool : goal.returns-in-Pool
returns-in-Pool c = grind (arith, common_steps)

pub returns-in-Own : goal.returns-in-Own
returns-in-Own c = grind (arith, common_steps)

pub returns-in-Cutoff : goal.returns-in-Cutoff
returns-in-Cutoff c = grind (arith, common_steps)
