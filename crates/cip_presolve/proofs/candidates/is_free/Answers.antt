use Rattle.std.proofs.lemmas.Grind.{common_steps}
use Rattle.std.proofs.Common.{arith}
use Rattle.cip_presolve.proofs.candidates.is_free.Goals as goal

pub returns-else-not-is_semi : goal.returns-else-not-is_semi
returns-else-not-is_semi c = grind (arith, common_steps)

pub returns-then-not-is_semi : goal.returns-then-not-is_semi
returns-then-not-is_semi c = grind (arith, common_steps)
