use Rattle.std.proofs.lemmas.Grind.{common_steps}
use Rattle.std.proofs.Common.{length, arith}
use Rattle.cip_cert.specs.Lent.{multiples_of}
use Rattle.cip_basis.proofs.Certified.{emptied_by}
use Rattle.cip_basis.proofs.checks.is_emptied.Goals as goal

pub returns-in-Ok-clause-empty : goal.returns-in-Ok-clause-empty
returns-in-Ok-clause-empty c e = emptied_by c.args.problem.now c.requires.ready (length c.args.scratch.now.row.entries) (multiples_of c.args.combo.now) c.requires.room c.in-Ok.ensures.steps

pub returns-in-Err-clause-room : goal.returns-in-Err-clause-room
returns-in-Err-clause-room c = grind (arith, common_steps)

pub returns-in-Ok-clause-room : goal.returns-in-Ok-clause-room
returns-in-Ok-clause-room c = grind (arith, common_steps)

pub empties-requires-clause-fits : goal.empties-requires-clause-fits
empties-requires-clause-fits c = grind (arith, common_steps)

pub empties-requires-clause-room : goal.empties-requires-clause-room
empties-requires-clause-room c = grind (arith, common_steps)

pub returns-in-Err-clause-empty : goal.returns-in-Err-clause-empty
returns-in-Err-clause-empty c = grind (arith, common_steps)
