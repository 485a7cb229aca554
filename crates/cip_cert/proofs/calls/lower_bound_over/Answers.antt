use Rattle.std.proofs.lemmas.Grind.{common_steps}
use Rattle.std.proofs.Common.{length, IfOk, subst, sym, arith}
use Rattle.cip_cert.specs.Lent.{lent_of, multiples_of}
use Rattle.cip_cert.specs.Follows.{BoundFollows}
use Rattle.cip_cert.proofs.Meaning.{lower_bound_follows}
use Rattle.cip_cert.proofs.calls.lower_bound_over.Goals as goal

pub returns-clause-follows : goal.returns-clause-follows
returns-clause-follows c =
    subst (λ o. IfOk o (BoundFollows (lent_of c.args.rows.now) c.args.bounds.now c.args.costs.now)) (sym c.lower_bound_row.ensures.steps)
    (lower_bound_follows (lent_of c.args.rows.now) c.args.bounds.now (length c.args.row.now.entries) (multiples_of c.args.combo.now) c.requires.fits c.requires.room c.args.costs.now c.requires.costs)

pub returns-clause-columns : goal.returns-clause-columns
returns-clause-columns c = grind (arith, common_steps)

pub returns-clause-steps : goal.returns-clause-steps
returns-clause-steps c = grind (arith, common_steps)

pub lower_bound_row-requires-clause-costs : goal.lower_bound_row-requires-clause-costs
lower_bound_row-requires-clause-costs c = grind (arith, common_steps)

pub lower_bound_row-requires-clause-room : goal.lower_bound_row-requires-clause-room
lower_bound_row-requires-clause-room c = grind (arith, common_steps)
