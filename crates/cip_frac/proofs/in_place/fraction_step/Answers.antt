use Rattle.std.proofs.lemmas.Grind.{common_steps}
use Rattle.std.proofs.Common.{◌≡◌, rules, arith}
use Rattle.cip_frac.proofs.ShortSums.{word, under_some, fraction_step_is}
use Rattle.cip_frac.proofs.in_place.fraction_step.Goals as goal

pub short_sum-requires-clause-other_positive : goal.short_sum-requires-clause-other_positive
short_sum-requires-clause-other_positive c =
    under_some c.args.left.now c.args.right.now _ _ _ c.in-Some-short_terms.ensures.1 c.in-Some-short_terms-2.ensures.1 c.in-Some-short_common.ensures.0

pub returns-in-Some-short_sum : goal.returns-in-Some-short_sum
returns-in-Some-short_sum c =
    let kn : word c.in-Some.n ≡ c.in-Some.n = search rules in
    let ka : word c.in-Some-short_terms.a ≡ c.in-Some-short_terms.a = search rules in
    let kc : word c.in-Some-short_terms-2.c ≡ c.in-Some-short_terms-2.c = search rules in
    let kt : word c.in-Some-short_sum.total ≡ c.in-Some-short_sum.total = search rules in
    fraction_step_is c.args.start c.args.left.now c.args.right.now _ _ _ _ _ _ c.in-Some.ensures c.in-Some-short_terms.ensures c.in-Some-short_terms-2.ensures kn ka kc
    c.in-Some-checked_mul.over c.in-Some-short_common.under c.in-Some-checked_mul.ensures c.in-Some-short_common.ensures
    c.in-Some-short_sum.total c.in-Some-short_sum.common c.reduced.result c.in-Some-short_sum.ensures.1 kt c.reduced.ensures

pub short_sum-requires-clause-small : goal.short_sum-requires-clause-small
short_sum-requires-clause-small c = grind (arith, common_steps)

pub short_sum-requires-clause-positive : goal.short_sum-requires-clause-positive
short_sum-requires-clause-positive c = grind (arith, common_steps)

pub reduced-requires : goal.reduced-requires
reduced-requires c = grind (arith, common_steps)

pub short_sum-requires-clause-other_small : goal.short_sum-requires-clause-other_small
short_sum-requires-clause-other_small c = omega arith

pub returns-in-None : goal.returns-in-None
returns-in-None c = grind (arith, common_steps)

pub returns-in_default-checked_mul : goal.returns-in_default-checked_mul
returns-in_default-checked_mul c = grind (arith, common_steps)

pub returns-in_default-short_terms-2 : goal.returns-in_default-short_terms-2
returns-in_default-short_terms-2 c = grind (arith, common_steps)

pub returns-in_default-short_terms : goal.returns-in_default-short_terms
returns-in_default-short_terms c = grind (arith, common_steps)

pub returns-in_default : goal.returns-in_default
returns-in_default c = grind (arith, common_steps)
