use Rattle.std.proofs.lemmas.Grind.{common_steps}
use Rattle.std.proofs.Common.{◌≡◌, true, List, All, ◌∙◌, ap, sym, subst, arith}
use Rattle.cip_rational.specs.Rational.{ℚ}
use Rattle.cip_rational.specs.Range.{fits_range}
use Rattle.cip_core.specs.Pairs.{IsAssignment}
use Rattle.cip_core.specs.StepsBack.{whole_point, LeafFitsBack}
use Rattle.cip_node.specs.LeafValues.{least_values}
use Rattle.cip_node.proofs.LeavesBack.{leaf_assigned, whenever}
use Rattle.cip_node.proofs.leaves.values_back.Goals as goal

pub whole_part-requires : goal.whole_part-requires
whole_part-requires c =
    let reduced = c.args.reduced.now in
    let steps = c.args.steps.now in
    let least : List ℚ = least_values reduced.integral c.args.sides.now in
    let e : c.in_ok-left.left.items ≡ least = c.in_ok-left.ensures.least ∙ ap (λ w. least_values w c.args.sides.now) c.whole.ensures.whole in
    let fit = subst (λ (values : List ℚ). All (λ (v : ℚ). fits_range v ≡ true) values) e c.in_ok-left.ensures.in_range in
    subst (LeafFitsBack steps) (sym (c.as_slice.ensures.value ∙ e))
    (c.requires.fits least (leaf_assigned reduced _ least c.whole.ensures.formed c.requires.left c.requires.leaf fit))

pub returns-clause-assigned : goal.returns-clause-assigned
returns-clause-assigned c =
    let reduced = c.args.reduced.now in
    let steps = c.args.steps.now in
    let least : List ℚ = least_values reduced.integral c.args.sides.now in
    let e : c.in_ok-left.left.items ≡ least = c.in_ok-left.ensures.least ∙ ap (λ w. least_values w c.args.sides.now) c.whole.ensures.whole in
    let fit = subst (λ (values : List ℚ). All (λ (v : ℚ). fits_range v ≡ true) values) e c.in_ok-left.ensures.in_range in
    whenever c.whole_part.result (IsAssignment reduced (whole_point steps least)) (leaf_assigned reduced _ least c.whole.ensures.formed c.requires.left c.requires.leaf fit)

pub returns-clause-back : goal.returns-clause-back
returns-clause-back c = grind (arith, common_steps)

pub values_in-requires : goal.values_in-requires
values_in-requires c = grind (arith, common_steps)
