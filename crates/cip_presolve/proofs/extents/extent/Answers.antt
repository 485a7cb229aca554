use Rattle.std.proofs.lemmas.Grind.{common_steps}
use Rattle.std.proofs.Common.{◌∙◌, List, ap, arith}
use Rattle.cip_rational.specs.Rational.{zeroℚ}
use Rattle.cip_problem.specs.Program.{Term}
use Rattle.cip_lin.specs.RowSums.{least_from}
use Rattle.cip_presolve.specs.RowReading.{negated}
use Rattle.cip_presolve.proofs.Enclosing.{enclosed, least_low, greatest_high}
use Rattle.cip_presolve.proofs.extents.extent.Goals as goal

pub returns : goal.returns
returns c =
    enclosed c.args.bounds.now c.args.row.now.terms c.value_of-low.result c.negated_value-high.result
    (least_low c.args.bounds.now c.args.row.now.terms c.value_of-low.result c.least.result c.value_of-low.ensures c.least.ensures)
    (greatest_high c.args.bounds.now c.args.row.now.terms c.negated_value-high.result c.negated_least.result c.negated_value-high.ensures
    (c.negated_least.ensures ∙ ap (λ (ts : List Term). least_from zeroℚ (negated ts) c.args.bounds.now) c.terms.ensures.terms))

pub negated_least-requires : goal.negated_least-requires
negated_least-requires c = grind (arith, common_steps)
