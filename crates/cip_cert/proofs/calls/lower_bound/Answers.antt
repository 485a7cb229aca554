use Rattle.std.proofs.lemmas.Grind.{common_steps}
use Rattle.std.proofs.Common.{arith}
use Rattle.cip_cert.proofs.calls.lower_bound.Goals as goal

pub returns-clause-columns : goal.returns-clause-columns
returns-clause-columns c = grind (arith, common_steps)

pub returns-clause-steps : goal.returns-clause-steps
returns-clause-steps c = grind (arith, common_steps)

pub returns-clause-follows : goal.returns-clause-follows
returns-clause-follows c = grind (arith, common_steps)

pub lower_bound_over-requires-clause-costs : goal.lower_bound_over-requires-clause-costs
lower_bound_over-requires-clause-costs c = grind (arith, common_steps)

pub lower_bound_over-requires-clause-room : goal.lower_bound_over-requires-clause-room
lower_bound_over-requires-clause-room c = grind (arith, common_steps)

pub returns-clause-bounds : goal.returns-clause-bounds
returns-clause-bounds c = grind (arith, common_steps)
