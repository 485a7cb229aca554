use Rattle.std.proofs.lemmas.Grind.{common_steps}
use Rattle.std.proofs.Common.{arith}
use Rattle.cip_mps.proofs.column_program.minimized.Goals as goal

pub returns-else-unwrap_or : goal.returns-else-unwrap_or
returns-else-unwrap_or c = grind (arith, common_steps)

pub returns-then-unwrap_or : goal.returns-then-unwrap_or
returns-then-unwrap_or c = grind (arith, common_steps)
