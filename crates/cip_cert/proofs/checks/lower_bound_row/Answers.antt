use Rattle.std.proofs.Common.{List, length, Result, sym, ap, ap₂, ◌∙◌, arith}
use Rattle.cip_rational.specs.Rational.{ℚ}
use Rattle.cip_problem.specs.Program.{Sides}
use Rattle.cip_problem.specs.Aggregate.{Inequality}
use Rattle.cip_cert.specs.Checks.{chain, bound_from}
use Rattle.cip_cert.specs.declared.faults.CutFault.{CutFault}
use Rattle.cip_cert.proofs.checks.lower_bound_row.Goals as goal

pub aggregate-requires-clause-fits : goal.aggregate-requires-clause-fits
aggregate-requires-clause-fits c = c.requires.fits

pub aggregate-requires-clause-room : goal.aggregate-requires-clause-room
aggregate-requires-clause-room c = c.requires.room

pub returns-in-Err-clause-steps : goal.returns-in-Err-clause-steps
returns-in-Err-clause-steps c = sym (ap (λ (r : Result Inequality CutFault). chain r (λ
    (row : Inequality). bound_from 0 row.least c.args.costs.now row.coefficients c.args.bounds.now))
    c.in-Err.ensures.steps)

pub returns-in-Err-clause-columns : goal.returns-in-Err-clause-columns
returns-in-Err-clause-columns c = c.in-Err.ensures.columns

pub bound-requires-clause-costs : goal.bound-requires-clause-costs
bound-requires-clause-costs c = c.requires.costs ∙ sym (ap length c.as_slice.ensures)

pub bound-requires-clause-room : goal.bound-requires-clause-room
bound-requires-clause-room c =
    omega (
      arith,
      ap length c.as_slice.ensures,
      ap length c.entries.ensures.entries,
      c.in-Ok.ensures.columns,
      c.requires.room,
    )

pub returns-clause-steps : goal.returns-clause-steps
returns-clause-steps c =
    c.bound.ensures
    ∙ ap₂ (λ (ds : List ℚ) (box : List Sides). bound_from 0 c.in-Ok.least c.args.costs.now ds box)
    c.entries.ensures.entries c.as_slice.ensures
    ∙ sym (ap (λ (r : Result Inequality CutFault). chain r (λ
    (row : Inequality). bound_from 0 row.least c.args.costs.now row.coefficients c.args.bounds.now))
    c.in-Ok.ensures.steps)

pub returns-clause-columns : goal.returns-clause-columns
returns-clause-columns c = c.in-Ok.ensures.columns
