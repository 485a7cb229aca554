use Rattle.std.proofs.lemmas.Grind.{common_steps}
use Rattle.std.proofs.Common.{length, sym, arith}
use Rattle.cip_cert.specs.Lent.{multiples_of}
use Rattle.cip_basis.proofs.Certified.{least}
use Rattle.cip_basis.proofs.checks.safe_cost.Goals as goal

pub returns-in-Ok-clause-least : goal.returns-in-Ok-clause-least
returns-in-Ok-clause-least c = least c.args.problem.now c.requires.ready (length c.args.scratch.now.row.entries) (multiples_of c.args.combo.now) c.in-Ok.bound c.requires.room (sym c.in-Ok.ensures.steps)

pub returns-in-Ok-clause-room : goal.returns-in-Ok-clause-room
returns-in-Ok-clause-room c = grind (arith, common_steps)

pub lower_bound-requires-clause-fits : goal.lower_bound-requires-clause-fits
lower_bound-requires-clause-fits c = grind (arith, common_steps)

pub lower_bound-requires-clause-costs : goal.lower_bound-requires-clause-costs
lower_bound-requires-clause-costs c = grind (arith, common_steps)

pub returns-in-Err-clause-room : goal.returns-in-Err-clause-room
returns-in-Err-clause-room c = grind (arith, common_steps)

pub lower_bound-requires-clause-room : goal.lower_bound-requires-clause-room
lower_bound-requires-clause-room c = grind (arith, common_steps)

pub returns-in-Err-clause-least : goal.returns-in-Err-clause-least
returns-in-Err-clause-least c = grind (arith, common_steps)
