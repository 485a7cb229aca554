use Rattle.std.proofs.lemmas.Grind.{common_steps}
use Rattle.std.proofs.Common.{◌≡◌, ◌*ℤ◌, ◌^◌, pos, to_z, of_z, sym, ap, ◌∙◌, lit<, arith}
use Rattle.std.specs.Int.{w128}
use Rattle.std.proofs.lemmas.Int.{ints}
use Rattle.cip_dict.proofs.WholeParts.{read_small}
use Rattle.cip_dict.proofs.WideProducts.{part_is, part_some, part_below}
use Rattle.cip_dict.proofs.whole_sums.split.Goals as goal

pub returns-then-below-g-ne0-clause-parts : goal.returns-then-below-g-ne0-clause-parts
returns-then-below-g-ne0-clause-parts c = (1, lit< tt, omega (arith, ints, c.requires.own_small), omega arith)

pub returns-in-Some-clause-parts : goal.returns-in-Some-clause-parts
returns-in-Some-clause-parts c =
    let read : c.from.result ≡ c.args.own = c.from.ensures ∙ read_small c.args.own c.requires.own_small in
    let wide : to_z w128 (of_z w128 c.from.result) ≡ c.from.result = omega (arith, ints, read, c.requires.own_small) in
    let parts : c.args.own ≡ c.in-Some.new *ℤ pos c.short_common-g.result = sym (wide ∙ read) ∙ c.in-Some.ensures.0 ∙ ap (λ g. c.in-Some.new *ℤ pos g) c.from-2.ensures in
    let kept = read_small c.in-Some.new c.in-Some.ensures.1 in
    (c.short_common-g.result, c.short_common-g.ensures, parts ∙ sym (ap (λ n. n *ℤ pos c.short_common-g.result) kept), part_is c.args.below c.short_common-g.result c.if-below-g-ne0.false)

pub returns-in-Some-clause-positive : goal.returns-in-Some-clause-positive
returns-in-Some-clause-positive c =
    part_some c.args.below c.short_common-g.result _ c.requires.positive (part_is c.args.below c.short_common-g.result c.if-below-g-ne0.false)

pub returns-in-Some-clause-below_small : goal.returns-in-Some-clause-below_small
returns-in-Some-clause-below_small c =
    part_below c.args.below c.short_common-g.result _ (2 ^ 42) c.short_common-g.ensures (part_is c.args.below c.short_common-g.result c.if-below-g-ne0.false) c.requires.below_small

pub returns-in-None-clause-parts : goal.returns-in-None-clause-parts
returns-in-None-clause-parts c = (1, lit< tt, omega (arith, ints, c.requires.own_small), omega arith)

pub returns-in-Some-clause-own_small : goal.returns-in-Some-clause-own_small
returns-in-Some-clause-own_small c = grind (arith, common_steps)

pub returns-in-None-clause-own_small : goal.returns-in-None-clause-own_small
returns-in-None-clause-own_small c = grind (arith, common_steps)

pub returns-then-below-g-ne0-clause-own_small : goal.returns-then-below-g-ne0-clause-own_small
returns-then-below-g-ne0-clause-own_small c = grind (arith, common_steps)

pub returns-in-None-clause-positive : goal.returns-in-None-clause-positive
returns-in-None-clause-positive c = grind (arith, common_steps)

pub returns-in-None-clause-below_small : goal.returns-in-None-clause-below_small
returns-in-None-clause-below_small c = grind (arith, common_steps)

pub nonzero_div-result : goal.nonzero_div-result
nonzero_div-result c = grind (arith, common_steps)

pub returns-then-below-g-ne0-clause-positive : goal.returns-then-below-g-ne0-clause-positive
returns-then-below-g-ne0-clause-positive c = grind (arith, common_steps)

pub small_part-requires : goal.small_part-requires
small_part-requires c = grind (arith, common_steps)

pub short_common-g-requires : goal.short_common-g-requires
short_common-g-requires c = grind (arith, common_steps)

pub nonzero_rem-below : goal.nonzero_rem-below
nonzero_rem-below c = grind (arith, common_steps)

pub returns-then-below-g-ne0-clause-below_small : goal.returns-then-below-g-ne0-clause-below_small
returns-then-below-g-ne0-clause-below_small c = grind (arith, common_steps)
