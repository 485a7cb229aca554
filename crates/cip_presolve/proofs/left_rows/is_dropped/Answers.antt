use Rattle.std.proofs.lemmas.Grind.{common_steps}
use Rattle.std.proofs.Common.{arith}
use Rattle.cip_presolve.proofs.left_rows.is_dropped.Goals as goal

pub returns-else-says_nothing : goal.returns-else-says_nothing
returns-else-says_nothing c = grind (arith, common_steps)

pub returns-then-says_nothing : goal.returns-then-says_nothing
returns-then-says_nothing c = grind (arith, common_steps)
