use Rattle.std.proofs.lemmas.Grind.{common_steps}
use Rattle.std.proofs.Common.{arith}
use Rattle.cip_solve.proofs.logs.renamed_end.Goals as goal

pub returns-in-Some : goal.returns-in-Some
returns-in-Some c = grind (arith, common_steps)

pub returns-in-None : goal.returns-in-None
returns-in-None c = grind (arith, common_steps)

pub overflow_cast-col : goal.overflow_cast-col
overflow_cast-col c = grind (arith, common_steps)

pub returns-in-Parked : goal.returns-in-Parked
returns-in-Parked c = grind (arith, common_steps)

pub returns-in-Closed : goal.returns-in-Closed
returns-in-Closed c = grind (arith, common_steps)

pub get-requires : goal.get-requires
get-requires c = grind (arith, common_steps)
