use Rattle.std.proofs.lemmas.Grind.{common_steps}
use Rattle.std.proofs.Common.{refl, arith}
use Rattle.cip_cert.proofs.NamedRows.{own_named, none_named}
use Rattle.cip_cert.specs.Lent.{lent_of}
use Rattle.cip_cert.proofs.entries.named_row.Goals as goal

pub kept_row-requires-clause-rising : goal.kept_row-requires-clause-rising
kept_row-requires-clause-rising c = c.requires.rising

pub kept_row-requires-clause-fits : goal.kept_row-requires-clause-fits
kept_row-requires-clause-fits c = c.requires.pool

pub returns-in-Pool : goal.returns-in-Pool
returns-in-Pool c = rw (c.in-Pool.is) c.kept_row.ensures

pub returns-in-None-cutoff : goal.returns-in-None-cutoff
returns-in-None-cutoff c = rw (c.in-Cutoff.is, c.in-None-cutoff.is) refl

pub returns-in-Some-cutoff : goal.returns-in-Some-cutoff
returns-in-Some-cutoff c = grind (arith, common_steps)

pub overflow_cast-number : goal.overflow_cast-number
overflow_cast-number c = grind (arith, common_steps)

pub get-requires : goal.get-requires
get-requires c = grind (arith, common_steps)

pub returns-in-Some : goal.returns-in-Some
returns-in-Some c =
    own_named (lent_of c.args.rows.now) c.args.bounds.now c.args.entry c.in-Own.number c.args.name c.in-Some.row.now
    c.in-Own.is c.in-Some.ensures.lookup.3.0 c.in-Some.ensures.lookup.1 c.requires.own

pub returns-in-None : goal.returns-in-None
returns-in-None c =
    none_named (lent_of c.args.rows.now) c.args.bounds.now c.args.entry c.in-Own.number c.args.name c.in-Own.is
    c.in-None.ensures.lookup.3
