use Rattle.std.proofs.lemmas.Grind.{common_steps}
use Rattle.std.proofs.Common.{arith}
use Rattle.cip_presolve.proofs.substituting.found_by.Goals as goal

pub bounds-first-0 : goal.bounds-first-0
bounds-first-0 c = omega arith

pub bounds-second-1 : goal.bounds-second-1
bounds-second-1 c = omega arith

pub returns-in_default-found_for : goal.returns-in_default-found_for
returns-in_default-found_for c = grind (arith, common_steps)

pub returns-in-None : goal.returns-in-None
returns-in-None c = grind (arith, common_steps)
