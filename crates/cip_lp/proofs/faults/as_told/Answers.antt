use Rattle.std.proofs.lemmas.Grind.{common_steps}
use Rattle.std.proofs.Common.{arith}
use Rattle.cip_lp.proofs.faults.as_told.Goals as goal

pub returns-else-known-eq12-clause-kinds : goal.returns-else-known-eq12-clause-kinds
returns-else-known-eq12-clause-kinds c = grind (arith, common_steps)

pub returns-else-known-eq12-clause-told : goal.returns-else-known-eq12-clause-told
returns-else-known-eq12-clause-told c = grind (arith, common_steps)

pub returns-then-known-eq12-clause-told : goal.returns-then-known-eq12-clause-told
returns-then-known-eq12-clause-told c = grind (arith, common_steps)
