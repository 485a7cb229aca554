use Rattle.std.proofs.lemmas.Grind.{common_steps}
use Rattle.std.proofs.Common.{arith}
use Rattle.cip_presolve.proofs.moves.last_value.Goals as goal

pub returns-then-rising-clause-risen : goal.returns-then-rising-clause-risen
returns-then-rising-clause-risen c = grind (arith, common_steps)

pub returns-clause-fallen : goal.returns-clause-fallen
returns-clause-fallen c = grind (arith, common_steps)

pub returns-in_default-clause-risen : goal.returns-in_default-clause-risen
returns-in_default-clause-risen c = grind (arith, common_steps)

pub returns-then-rising-clause-fallen : goal.returns-then-rising-clause-fallen
returns-then-rising-clause-fallen c = grind (arith, common_steps)

pub returns-in_default-low-clause-fallen : goal.returns-in_default-low-clause-fallen
returns-in_default-low-clause-fallen c = grind (arith, common_steps)

pub returns-clause-risen : goal.returns-clause-risen
returns-clause-risen c = grind (arith, common_steps)

pub returns-in_default-clause-fallen : goal.returns-in_default-clause-fallen
returns-in_default-clause-fallen c = grind (arith, common_steps)

pub returns-in_default-low-clause-risen : goal.returns-in_default-low-clause-risen
returns-in_default-low-clause-risen c = grind (arith, common_steps)
