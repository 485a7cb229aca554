use Rattle.std.proofs.lemmas.Grind.{common_steps}
use Rattle.std.proofs.Common.{arith, rules, ◌≡◌, ◌∙◌}
use Rattle.std.specs.Int.{w128}
use Rattle.std.proofs.lemmas.Int.{to_z-of_z}
use Rattle.cip_frac.proofs.Casts.{total_by}
use Rattle.cip_frac.proofs.ShortSums.{word}
use Rattle.cip_frac.proofs.bounded.short_total.Goals as goal

pub whole_step-requires : goal.whole_step-requires
whole_step-requires c = grind (arith, common_steps)

pub returns-else-n-ge-MIDDLE_LEAST : goal.returns-else-n-ge-MIDDLE_LEAST
returns-else-n-ge-MIDDLE_LEAST c = grind (arith, common_steps)

pub returns-then-n-le-MIDDLE_MOST : goal.returns-then-n-le-MIDDLE_MOST
returns-then-n-le-MIDDLE_MOST c =
    let left : word c.in-Some.left ≡ c.in-Some.left = search rules in
    let right : word c.in-Some-short.right ≡ c.in-Some-short.right = search rules in
    total_by c.args.n c.args.a c.args.c _ _ _ c.whole_step.result _ (to_z-of_z w128 c.args.n c.ranges.n)
    (left ∙ c.in-Some.ensures.0 ∙ to_z-of_z w128 c.args.a c.ranges.a)
    (right ∙ c.in-Some-short.ensures.0 ∙ to_z-of_z w128 c.args.c c.ranges.c)
    c.whole_step.ensures.small_product c.whole_step.ensures.value c.whole_step.ensures.small
    (to_z-of_z w128 c.whole_step.result (record { sfits = c.whole_step.type_inv }))
