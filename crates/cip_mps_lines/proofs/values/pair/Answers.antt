use Rattle.std.proofs.lemmas.Grind.{common_steps}
use Rattle.std.proofs.Common.{arith}
use Rattle.cip_mps_lines.proofs.values.pair.Goals as goal

pub returns-clause-number_is : goal.returns-clause-number_is
returns-clause-number_is c = grind (arith, common_steps)
