use Rattle.cip_presolve.proofs.Enclosing.{negated_back}
use Rattle.cip_lin.specs.declared.outcomes.Least.TheVariants.{Value}
use Rattle.cip_rational.specs.Rational.{ℚ, negate}
use Rattle.std.proofs.Common.{◌∙◌, ap, sym}
use Rattle.cip_presolve.proofs.extents.negated_value.Goals as goal

pub returns-in-Value : goal.returns-in-Value
returns-in-Value c =
    negated_back c.args.least c.in-Value.value c.in-Value.is ∙ ap (λ (q : ℚ). Value (negate q)) (sym c.neg.ensures)
