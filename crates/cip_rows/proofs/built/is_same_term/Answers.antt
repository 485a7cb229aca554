use Rattle.std.proofs.lemmas.Grind.{common_steps}
use Rattle.std.proofs.Common.{arith}
use Rattle.cip_rows.proofs.built.is_same_term.Goals as goal

pub returns-then-a-b : goal.returns-then-a-b
returns-then-a-b c = grind (arith, common_steps)

pub returns-else-a-b : goal.returns-else-a-b
returns-else-a-b c = grind (arith, common_steps)
