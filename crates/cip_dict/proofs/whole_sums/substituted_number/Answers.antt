use Rattle.std.proofs.lemmas.Grind.{common_steps}
use Rattle.std.proofs.Common.{◌<◌, ◌^◌, ◌+ℤ◌, ◌*ℤ◌, pos, to_z, of_z, refl, arith, lit<}
use Rattle.std.specs.Int.{w128}
use Rattle.std.proofs.lemmas.Int.{ints, fits_signed_from_abs}
use Rattle.cip_rational.specs.Range.{magnitude}
use Rattle.cip_dict.specs.Pivots.{absent_by}
use Rattle.cip_dict.proofs.ReadNumbers.{natural_below, word_below, two_products, product_small, sum_small, product_read, multiple_read, sum_read, chosen_first, chosen_second, chosen_third}
use Rattle.cip_dict.proofs.whole_sums.substituted_number.Goals as goal

pub product_of-requires-clause-first : goal.product_of-requires-clause-first
product_of-requires-clause-first c = word_below c.args.factors.new c.requires.own_small

pub product_of-requires-clause-second : goal.product_of-requires-clause-second
product_of-requires-clause-second c = word_below c.args.y c.requires.new_small

pub overflow_cast-factors : goal.overflow_cast-factors
overflow_cast-factors c = omega (arith, ints, c.requires.factor_small)

pub product_of-requires-else-is_absent_on-clause-first : goal.product_of-requires-else-is_absent_on-clause-first
product_of-requires-else-is_absent_on-clause-first c = word_below c.args.n c.requires.row_small

pub product_of-requires-else-is_absent_on-clause-second : goal.product_of-requires-else-is_absent_on-clause-second
product_of-requires-else-is_absent_on-clause-second c = natural_below c.args.factors.own c.requires.factor_small

pub product_of-requires-else-is_absent_on-2-clause-first : goal.product_of-requires-else-is_absent_on-2-clause-first
product_of-requires-else-is_absent_on-2-clause-first c = word_below c.args.factors.new c.requires.own_small

pub product_of-requires-else-is_absent_on-2-clause-second : goal.product_of-requires-else-is_absent_on-2-clause-second
product_of-requires-else-is_absent_on-2-clause-second c = word_below c.args.y c.requires.new_small

pub returns-then-k-pivot-clause-value : goal.returns-then-k-pivot-clause-value
returns-then-k-pivot-clause-value c =
    chosen_first c.args.k c.args.pivot.now.leaving (absent_by c.args.pivot.now c.args.k) _ _ _ _ c.if-k-pivot.true
    (product_read c.args.factors.new c.args.y c.product_of.result c.requires.own_small c.requires.new_small c.product_of.ensures.value c.product_of.ensures.small)

pub returns-then-k-pivot-clause-small : goal.returns-then-k-pivot-clause-small
returns-then-k-pivot-clause-small c = product_small c.product_of.result c.product_of.ensures.small

pub returns-then-is_absent_on-clause-value : goal.returns-then-is_absent_on-clause-value
returns-then-is_absent_on-clause-value c =
    chosen_second c.args.k c.args.pivot.now.leaving (absent_by c.args.pivot.now c.args.k) _ _ _ _ c.is_absent_on.result c.if-k-pivot.false c.is_absent_on.ensures c.if-is_absent_on.true refl

pub returns-then-is_absent_on-clause-small : goal.returns-then-is_absent_on-clause-small
returns-then-is_absent_on-clause-small c = lit< tt

pub returns-else-is_absent_on-clause-value : goal.returns-else-is_absent_on-clause-value
returns-else-is_absent_on-clause-value c =
    let small : magnitude (to_z w128 (of_z w128 c.product_of-else-is_absent_on.result) +ℤ to_z w128 (of_z w128 c.product_of-else-is_absent_on-2.result)) < 2 ^ 86 = two_products c.product_of-else-is_absent_on.result c.product_of-else-is_absent_on-2.result c.product_of-else-is_absent_on.ensures.small c.product_of-else-is_absent_on-2.ensures.small in
    chosen_third c.args.k c.args.pivot.now.leaving (absent_by c.args.pivot.now c.args.k) _ _ _ _ c.is_absent_on.result c.if-k-pivot.false c.is_absent_on.ensures c.if-is_absent_on.false
    (sum_read c.product_of-else-is_absent_on.result c.product_of-else-is_absent_on-2.result (c.args.n *ℤ pos c.args.factors.own) (c.args.factors.new *ℤ c.args.y) (to_z w128 (of_z w128 c.product_of-else-is_absent_on.result) +ℤ to_z w128 (of_z w128 c.product_of-else-is_absent_on-2.result)) refl small
    (multiple_read c.args.n c.args.factors.own c.product_of-else-is_absent_on.result c.requires.row_small c.requires.factor_small c.product_of-else-is_absent_on.ensures.value c.product_of-else-is_absent_on.ensures.small)
    (product_read c.args.factors.new c.args.y c.product_of-else-is_absent_on-2.result c.requires.own_small c.requires.new_small c.product_of-else-is_absent_on-2.ensures.value c.product_of-else-is_absent_on-2.ensures.small))

pub returns-else-is_absent_on-clause-small : goal.returns-else-is_absent_on-clause-small
returns-else-is_absent_on-clause-small c =
    let small : magnitude (to_z w128 (of_z w128 c.product_of-else-is_absent_on.result) +ℤ to_z w128 (of_z w128 c.product_of-else-is_absent_on-2.result)) < 2 ^ 86 = two_products c.product_of-else-is_absent_on.result c.product_of-else-is_absent_on-2.result c.product_of-else-is_absent_on.ensures.small c.product_of-else-is_absent_on-2.ensures.small in
    sum_small (to_z w128 (of_z w128 c.product_of-else-is_absent_on.result) +ℤ to_z w128 (of_z w128 c.product_of-else-is_absent_on-2.result)) small

pub overflow_add-result : goal.overflow_add-result
overflow_add-result c =
    let small : magnitude (to_z w128 (of_z w128 c.product_of-else-is_absent_on.result) +ℤ to_z w128 (of_z w128 c.product_of-else-is_absent_on-2.result)) < 2 ^ 86 = two_products c.product_of-else-is_absent_on.result c.product_of-else-is_absent_on-2.result c.product_of-else-is_absent_on.ensures.small c.product_of-else-is_absent_on-2.ensures.small in
    fits_signed_from_abs w128 (to_z w128 (of_z w128 c.product_of-else-is_absent_on.result) +ℤ to_z w128 (of_z w128 c.product_of-else-is_absent_on-2.result)) (omega (arith, small))

pub is_absent_on-requires : goal.is_absent_on-requires
is_absent_on-requires c = grind (arith, common_steps)
