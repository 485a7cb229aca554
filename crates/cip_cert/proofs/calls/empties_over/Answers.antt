use Rattle.std.proofs.lemmas.Grind.{common_steps}
use Rattle.std.proofs.Common.{length, Ok, arith}
use Rattle.cip_cert.specs.Lent.{lent_of, multiples_of}
use Rattle.cip_cert.proofs.Meaning.{empties_follows}
use Rattle.cip_cert.proofs.calls.empties_over.Goals as goal

pub returns-in-Ok-clause-follows : goal.returns-in-Ok-clause-follows
returns-in-Ok-clause-follows c =
    empties_follows (lent_of c.args.rows.now) c.args.bounds.now (length c.args.row.now.entries) (multiples_of c.args.combo.now) c.requires.fits c.requires.room (Ok c.in-Ok.field-0) c.in-Ok.ensures.steps

pub returns-in-Err-clause-steps : goal.returns-in-Err-clause-steps
returns-in-Err-clause-steps c = grind (arith, common_steps)

pub returns-in-Err-clause-columns : goal.returns-in-Err-clause-columns
returns-in-Err-clause-columns c = grind (arith, common_steps)

pub returns-in-Ok-clause-columns : goal.returns-in-Ok-clause-columns
returns-in-Ok-clause-columns c = grind (arith, common_steps)

pub returns-in-Ok-clause-steps : goal.returns-in-Ok-clause-steps
returns-in-Ok-clause-steps c = grind (arith, common_steps)

pub returns-in-Err-clause-follows : goal.returns-in-Err-clause-follows
returns-in-Err-clause-follows c = grind (arith, common_steps)

pub empties_row-requires-clause-room : goal.empties_row-requires-clause-room
empties_row-requires-clause-room c = grind (arith, common_steps)
