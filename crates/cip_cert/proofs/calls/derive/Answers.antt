use Rattle.std.proofs.lemmas.Grind.{common_steps}
use Rattle.std.proofs.Common.{length, arith}
use Rattle.cip_cert.specs.Lent.{lent_of, multiples_of}
use Rattle.cip_cert.proofs.Meaning.{derive_follows}
use Rattle.cip_cert.proofs.calls.derive.Goals as goal

pub returns-clause-follows : goal.returns-clause-follows
returns-clause-follows c =
    derive_follows (lent_of c.args.rows.now) c.args.bounds.now (length c.args.scratch.now.row.entries) (multiples_of c.args.combo.now) c.requires.fits c.requires.room
    c.args.rows.now.whole.now c.args.round c.derive_row.new.row.entries c.derive_row.result c.derive_row.ensures.steps

pub returns-clause-columns : goal.returns-clause-columns
returns-clause-columns c = grind (arith, common_steps)

pub returns-clause-steps : goal.returns-clause-steps
returns-clause-steps c = grind (arith, common_steps)

pub derive_row-requires-clause-flags : goal.derive_row-requires-clause-flags
derive_row-requires-clause-flags c = grind (arith, common_steps)

pub derive_row-requires-clause-room : goal.derive_row-requires-clause-room
derive_row-requires-clause-room c = grind (arith, common_steps)

pub returns-clause-bounds : goal.returns-clause-bounds
returns-clause-bounds c = grind (arith, common_steps)
