use Rattle.std.proofs.lemmas.Grind.{common_steps}
use Rattle.std.proofs.Common.{length, false, get_or, arith}
use Rattle.cip_cert.proofs.Allowed.{low_answer, high_answer}
use Rattle.cip_cert.specs.Lent.{lent_of, multiples_of}
use Rattle.cip_cert.proofs.Meaning.{low_on_ok, high_on_ok}
use Rattle.cip_cert.proofs.calls.reduction.Goals as goal

pub returns-in-Low-clause-follows : goal.returns-in-Low-clause-follows
returns-in-Low-clause-follows c =
    rw (c.in-Low.is) (low_on_ok (lent_of c.args.rows.now) c.args.bounds.now (length c.args.scratch.now.row.entries)
    (multiples_of c.args.combo.now) c.requires.fits c.requires.room c.args.column c.requires.inside
    (get_or c.args.rows.now.whole.now c.args.column false) c.args.value c.low_reduced_row.result
    c.low_reduced_row.ensures.steps)

pub returns-in-High-clause-follows : goal.returns-in-High-clause-follows
returns-in-High-clause-follows c =
    rw (c.in-High.is) (high_on_ok (lent_of c.args.rows.now) c.args.bounds.now (length c.args.scratch.now.row.entries)
    (multiples_of c.args.combo.now) c.requires.fits c.requires.room c.args.column c.requires.inside
    (get_or c.args.rows.now.whole.now c.args.column false) c.args.value c.high_reduced_row.result
    c.high_reduced_row.ensures.steps)

pub low_reduced_row-requires-clause-fits : goal.low_reduced_row-requires-clause-fits
low_reduced_row-requires-clause-fits c = c.requires.fits

pub low_reduced_row-requires-clause-room : goal.low_reduced_row-requires-clause-room
low_reduced_row-requires-clause-room c = c.requires.room

pub low_reduced_row-requires-clause-flags : goal.low_reduced_row-requires-clause-flags
low_reduced_row-requires-clause-flags c = c.requires.flags

pub low_reduced_row-requires-clause-inside : goal.low_reduced_row-requires-clause-inside
low_reduced_row-requires-clause-inside c = c.requires.inside

pub returns-in-Low-clause-steps : goal.returns-in-Low-clause-steps
returns-in-Low-clause-steps c = rw (c.in-Low.is) c.low_reduced_row.ensures.steps

pub returns-in-Low-clause-columns : goal.returns-in-Low-clause-columns
returns-in-Low-clause-columns c = c.low_reduced_row.ensures.columns

pub high_reduced_row-requires-clause-fits : goal.high_reduced_row-requires-clause-fits
high_reduced_row-requires-clause-fits c = c.requires.fits

pub high_reduced_row-requires-clause-room : goal.high_reduced_row-requires-clause-room
high_reduced_row-requires-clause-room c = c.requires.room

pub high_reduced_row-requires-clause-flags : goal.high_reduced_row-requires-clause-flags
high_reduced_row-requires-clause-flags c = c.requires.flags

pub high_reduced_row-requires-clause-inside : goal.high_reduced_row-requires-clause-inside
high_reduced_row-requires-clause-inside c = c.requires.inside

pub returns-in-High-clause-steps : goal.returns-in-High-clause-steps
returns-in-High-clause-steps c = rw (c.in-High.is) c.high_reduced_row.ensures.steps

pub returns-in-High-clause-columns : goal.returns-in-High-clause-columns
returns-in-High-clause-columns c = c.high_reduced_row.ensures.columns

pub returns-in-High-clause-bounds : goal.returns-in-High-clause-bounds
returns-in-High-clause-bounds c = grind (arith, common_steps)

pub returns-in-Low-clause-bounds : goal.returns-in-Low-clause-bounds
returns-in-Low-clause-bounds c = grind (arith, common_steps)

pub returns-in-High-clause-value : goal.returns-in-High-clause-value
returns-in-High-clause-value c =
    high_answer (lent_of c.args.rows.now) (get_or c.args.rows.now.whole.now c.args.column false) c.args.bounds.now
    (length c.args.scratch.now.row.entries) c.args.column c.args.value (multiples_of c.args.combo.now)
    c.high_reduced_row.result c.high_reduced_row.ensures.steps

pub returns-in-Low-clause-value : goal.returns-in-Low-clause-value
returns-in-Low-clause-value c =
    low_answer (lent_of c.args.rows.now) (get_or c.args.rows.now.whole.now c.args.column false) c.args.bounds.now
    (length c.args.scratch.now.row.entries) c.args.column c.args.value (multiples_of c.args.combo.now)
    c.low_reduced_row.result c.low_reduced_row.ensures.steps
