use Rattle.std.proofs.lemmas.Grind.{common_steps}
use Rattle.std.proofs.Common.{arith}
use Rattle.cip_cert.proofs.calls.aggregate_row.Goals as goal

pub returns-clause-columns : goal.returns-clause-columns
returns-clause-columns c = grind (arith, common_steps)

pub returns-clause-steps : goal.returns-clause-steps
returns-clause-steps c = grind (arith, common_steps)

pub aggregate-requires-clause-room : goal.aggregate-requires-clause-room
aggregate-requires-clause-room c = grind (arith, common_steps)
