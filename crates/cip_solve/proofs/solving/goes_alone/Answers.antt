use Rattle.std.proofs.lemmas.Grind.{common_steps}
use Rattle.std.proofs.Common.{arith}
use Rattle.cip_solve.proofs.solving.goes_alone.Goals as goal

pub is_bare-requires : goal.is_bare-requires
is_bare-requires c = omega arith

pub returns-else-options : goal.returns-else-options
returns-else-options c = grind (arith, common_steps)

pub returns-then-options : goal.returns-then-options
returns-then-options c = grind (arith, common_steps)
