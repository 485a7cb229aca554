use Rattle.std.proofs.lemmas.Grind.{common_steps}
use Rattle.std.proofs.Common.{◌≡◌, List, ap, subst, sym, ◌∙◌, arith}
use Rattle.cip_rational.specs.Rational.{ℚ, ◌+ℚ◌, ◌≤ℚ◌, integer, ceil}
use Rattle.cip_rational.specs.Sums.{dot}
use Rattle.cip_rational.proofs.Rational.Order.{le_of_test}
use Rattle.cip_relax.proofs.guessing.reaches_cost.Goals as goal

pub returns-then-are_costs_whole : goal.returns-then-are_costs_whole
returns-then-are_costs_whole c = λ e.
    let program = c.args.program.now in
    let point = c.args.point.now in
    let sum = sym (subst (λ (costs : List ℚ). dot costs point ≡ c.in-Some.sum) c.costs-costs.ensures.costs c.in-Some.ensures) in
    let cost = c.in-Some-with_constant.ensures ∙ ap (λ t. program.constant +ℚ t) sum in
    let below = subst (λ t. c.in-Some-with_constant.cost ≤ℚ t) c.rounded_up.ensures (le_of_test (sym c.is_at_most.ensures ∙ e)) in
    record { whole = c.if-are_costs_whole.ensures; reached = subst (λ t. t ≤ℚ integer (ceil c.args.bound)) cost below }

pub returns-else-are_costs_whole : goal.returns-else-are_costs_whole
returns-else-are_costs_whole c = grind (arith, common_steps)

pub returns-in-None : goal.returns-in-None
returns-in-None c = grind (arith, common_steps)

pub returns-in_default : goal.returns-in_default
returns-in_default c = grind (arith, common_steps)

pub returns-then-costs-point : goal.returns-then-costs-point
returns-then-costs-point c = grind (arith, common_steps)

pub point_cost-requires : goal.point_cost-requires
point_cost-requires c = grind (arith, common_steps)
