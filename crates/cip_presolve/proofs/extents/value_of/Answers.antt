use Rattle.std.proofs.lemmas.Grind.{common_steps}
use Rattle.std.proofs.Common.{arith}
use Rattle.cip_presolve.proofs.extents.value_of.Goals as goal

pub returns-in-Value : goal.returns-in-Value
returns-in-Value c = grind (arith, common_steps)
