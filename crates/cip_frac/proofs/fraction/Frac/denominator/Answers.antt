use Rattle.std.proofs.lemmas.Grind.{common_steps}
use Rattle.std.proofs.Common.{arith}
use Rattle.cip_frac.proofs.Fields.{denominator_field, lowest_ratio}
use Rattle.cip_frac.proofs.fraction.Frac.denominator.Goals as goal

pub returns-clause-value : goal.returns-clause-value
returns-clause-value c = denominator_field _ _ c.args.self c.terms.ensures.lowest (lowest_ratio _ _ c.args.self c.terms.ensures.over c.terms.ensures.under)

pub returns-clause-bounded : goal.returns-clause-bounded
returns-clause-bounded c = grind (arith, common_steps)

pub overflow_cast-result : goal.overflow_cast-result
overflow_cast-result c = omega arith
