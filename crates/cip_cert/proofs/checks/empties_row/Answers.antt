use Rattle.std.proofs.lemmas.Grind.{common_steps}
use Rattle.std.proofs.Common.{arith}
use Rattle.cip_cert.proofs.checks.empties_row.Goals as goal

pub returns-in-Err-clause-steps : goal.returns-in-Err-clause-steps
returns-in-Err-clause-steps c = grind (arith, common_steps)

pub returns-in-Ok-2-clause-columns : goal.returns-in-Ok-2-clause-columns
returns-in-Ok-2-clause-columns c = omega arith

pub returns-in-Ok-2-clause-steps : goal.returns-in-Ok-2-clause-steps
returns-in-Ok-2-clause-steps c = grind (arith, common_steps)

pub returns-in-Ok-clause-columns : goal.returns-in-Ok-clause-columns
returns-in-Ok-clause-columns c = omega arith

pub returns-in-Ok-clause-steps : goal.returns-in-Ok-clause-steps
returns-in-Ok-clause-steps c = grind (arith, common_steps)

pub returns-in-Err-clause-columns : goal.returns-in-Err-clause-columns
returns-in-Err-clause-columns c = grind (arith, common_steps)

pub rests_row-requires-clause-room : goal.rests_row-requires-clause-room
rests_row-requires-clause-room c = grind (arith, common_steps)
