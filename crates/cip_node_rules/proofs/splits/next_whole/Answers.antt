use Rattle.std.proofs.lemmas.Grind.{common_steps}
use Rattle.std.proofs.Common.{◌≡◌, ◌∙◌, ap, arith}
use Rattle.std.specs.Int.{w128}
use Rattle.std.proofs.lemmas.Int.{to_z-of_z}
use Rattle.cip_rational.specs.Rational.{numerator, ceil}
use Rattle.cip_rational.proofs.Rational.Lowest.{numerator-integer}
use Rattle.cip_node_rules.proofs.splits.next_whole.Goals as goal

pub returns-clause-value : goal.returns-clause-value
returns-clause-value c =
    let e : c.numerator.result ≡ ceil c.args.low = c.numerator.ensures.value ∙ ap numerator c.rounded_up.ensures ∙ numerator-integer _ in
    to_z-of_z w128 c.numerator.result (record { sfits = c.numerator.type_inv }) ∙ e

pub returns-clause-bounded : goal.returns-clause-bounded
returns-clause-bounded c = grind (arith, common_steps)
