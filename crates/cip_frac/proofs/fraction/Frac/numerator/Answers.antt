use Rattle.std.proofs.lemmas.Grind.{common_steps}
use Rattle.std.proofs.Common.{arith}
use Rattle.cip_frac.proofs.Fields.{numerator_field, lowest_ratio}
use Rattle.cip_frac.proofs.fraction.Frac.numerator.Goals as goal

pub returns-clause-value : goal.returns-clause-value
returns-clause-value c = numerator_field _ _ c.args.self c.terms.ensures.lowest (lowest_ratio _ _ c.args.self c.terms.ensures.over c.terms.ensures.under)

pub returns-clause-bounded : goal.returns-clause-bounded
returns-clause-bounded c = grind (arith, common_steps)
