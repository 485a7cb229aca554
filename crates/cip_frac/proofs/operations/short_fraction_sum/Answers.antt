use Rattle.std.proofs.lemmas.Grind.{common_steps}
use Rattle.std.proofs.Common.{◌≡◌, ◌∙◌, rules, arith}
use Rattle.cip_frac.proofs.Divisors.{positive_from_IsGcd}
use Rattle.cip_frac.proofs.ShortSums.{word}
use Rattle.cip_frac.proofs.ShortParts.{lowest_of, over_short, under_short, sum_fits, sum_lowest, sum_is, rest_some, rest_bounded, rest_lowest, rest_is}
use Rattle.cip_frac.proofs.operations.short_fraction_sum.Goals as goal

pub short_part_of-over-requires : goal.short_part_of-over-requires
short_part_of-over-requires c = positive_from_IsGcd _ _ _ (lowest_of c.args.right _ _ c.in-Some-short_terms.ensures).positive c.denominators_gcd-g.ensures

pub short_part_of-under-requires : goal.short_part_of-under-requires
short_part_of-under-requires c = positive_from_IsGcd _ _ _ (lowest_of c.args.right _ _ c.in-Some-short_terms.ensures).positive c.denominators_gcd-g.ensures

pub cross_sum-total-requires-clause-first : goal.cross_sum-total-requires-clause-first
cross_sum-total-requires-clause-first c =
    let ka : word c.in-Some.a ≡ c.in-Some.a = search rules in
    let kc : word c.in-Some-short_terms.c ≡ c.in-Some-short_terms.c = search rules in
    over_short c.args.left c.args.right c.in-Some.a c.in-Some-short_terms.c _ _ _ _ _ c.in-Some.ensures c.in-Some-short_terms.ensures ka kc c.denominators_gcd-g.ensures c.short_part_of-over.ensures c.short_part_of-under.ensures

pub cross_sum-total-requires-clause-second : goal.cross_sum-total-requires-clause-second
cross_sum-total-requires-clause-second c =
    let ka : word c.in-Some.a ≡ c.in-Some.a = search rules in
    let kc : word c.in-Some-short_terms.c ≡ c.in-Some-short_terms.c = search rules in
    under_short c.args.left c.args.right c.in-Some.a c.in-Some-short_terms.c _ _ _ _ _ c.in-Some.ensures c.in-Some-short_terms.ensures ka kc c.denominators_gcd-g.ensures c.short_part_of-over.ensures c.short_part_of-under.ensures

pub of_lowest-requires : goal.of_lowest-requires
of_lowest-requires c =
    let ka : word c.in-Some.a ≡ c.in-Some.a = search rules in
    let kc : word c.in-Some-short_terms.c ≡ c.in-Some-short_terms.c = search rules in
    sum_lowest c.args.left c.args.right c.in-Some.a c.in-Some-short_terms.c _ _ _ _ _ c.in-Some.ensures c.in-Some-short_terms.ensures ka kc c.denominators_gcd-g.ensures c.short_part_of-over.ensures c.short_part_of-under.ensures c.cross_sum-total.result c.cross_sum-total.ensures _ c.wide_common.ensures c.if-g-eq1.true

pub returns-then-g-eq1 : goal.returns-then-g-eq1
returns-then-g-eq1 c =
    let ka : word c.in-Some.a ≡ c.in-Some.a = search rules in
    let kc : word c.in-Some-short_terms.c ≡ c.in-Some-short_terms.c = search rules in
    (sum_fits c.args.left c.args.right c.in-Some.a c.in-Some-short_terms.c _ _ _ _ _ c.in-Some.ensures c.in-Some-short_terms.ensures ka kc c.denominators_gcd-g.ensures c.short_part_of-over.ensures c.short_part_of-under.ensures c.cross_sum-total.result c.cross_sum-total.ensures, c.of_lowest.ensures ∙ sum_is c.args.left c.args.right c.in-Some.a c.in-Some-short_terms.c _ _ _ _ _ c.in-Some.ensures c.in-Some-short_terms.ensures ka kc c.denominators_gcd-g.ensures c.short_part_of-over.ensures c.short_part_of-under.ensures c.cross_sum-total.result c.cross_sum-total.ensures _ c.wide_common.ensures c.if-g-eq1.true)

pub signed_part_of-numerator-requires-clause-positive : goal.signed_part_of-numerator-requires-clause-positive
signed_part_of-numerator-requires-clause-positive c =
    let ka : word c.in-Some.a ≡ c.in-Some.a = search rules in
    let kc : word c.in-Some-short_terms.c ≡ c.in-Some-short_terms.c = search rules in
    rest_some c.args.left c.args.right c.in-Some.a c.in-Some-short_terms.c _ _ _ _ _ c.in-Some.ensures c.in-Some-short_terms.ensures ka kc c.denominators_gcd-g.ensures c.short_part_of-over.ensures c.short_part_of-under.ensures c.cross_sum-total.result c.cross_sum-total.ensures _ _ c.unsigned_abs.ensures.value c.gcd-rest.ensures

pub signed_part_of-numerator-requires-clause-bounded : goal.signed_part_of-numerator-requires-clause-bounded
signed_part_of-numerator-requires-clause-bounded c =
    let ka : word c.in-Some.a ≡ c.in-Some.a = search rules in
    let kc : word c.in-Some-short_terms.c ≡ c.in-Some-short_terms.c = search rules in
    rest_bounded c.args.left c.args.right c.in-Some.a c.in-Some-short_terms.c _ _ _ _ _ c.in-Some.ensures c.in-Some-short_terms.ensures ka kc c.denominators_gcd-g.ensures c.short_part_of-over.ensures c.short_part_of-under.ensures c.cross_sum-total.result c.cross_sum-total.ensures _ _ c.unsigned_abs.ensures.value c.gcd-rest.ensures

pub part_of-last-requires : goal.part_of-last-requires
part_of-last-requires c =
    let ka : word c.in-Some.a ≡ c.in-Some.a = search rules in
    let kc : word c.in-Some-short_terms.c ≡ c.in-Some-short_terms.c = search rules in
    rest_some c.args.left c.args.right c.in-Some.a c.in-Some-short_terms.c _ _ _ _ _ c.in-Some.ensures c.in-Some-short_terms.ensures ka kc c.denominators_gcd-g.ensures c.short_part_of-over.ensures c.short_part_of-under.ensures c.cross_sum-total.result c.cross_sum-total.ensures _ _ c.unsigned_abs.ensures.value c.gcd-rest.ensures

pub of_lowest-requires-2 : goal.of_lowest-requires-2
of_lowest-requires-2 c =
    let ka : word c.in-Some.a ≡ c.in-Some.a = search rules in
    let kc : word c.in-Some-short_terms.c ≡ c.in-Some-short_terms.c = search rules in
    rest_lowest c.args.left c.args.right c.in-Some.a c.in-Some-short_terms.c _ _ _ _ _ c.in-Some.ensures c.in-Some-short_terms.ensures ka kc c.denominators_gcd-g.ensures c.short_part_of-over.ensures c.short_part_of-under.ensures c.cross_sum-total.result c.cross_sum-total.ensures _ _ c.unsigned_abs.ensures.value c.gcd-rest.ensures _ _ c.signed_part_of-numerator.ensures c.part_of-last.ensures

pub returns : goal.returns
returns c =
    let ka : word c.in-Some.a ≡ c.in-Some.a = search rules in
    let kc : word c.in-Some-short_terms.c ≡ c.in-Some-short_terms.c = search rules in
    (sum_fits c.args.left c.args.right c.in-Some.a c.in-Some-short_terms.c _ _ _ _ _ c.in-Some.ensures c.in-Some-short_terms.ensures ka kc c.denominators_gcd-g.ensures c.short_part_of-over.ensures c.short_part_of-under.ensures c.cross_sum-total.result c.cross_sum-total.ensures, c.of_lowest-2.ensures ∙ rest_is c.args.left c.args.right c.in-Some.a c.in-Some-short_terms.c _ _ _ _ _ c.in-Some.ensures c.in-Some-short_terms.ensures ka kc c.denominators_gcd-g.ensures c.short_part_of-over.ensures c.short_part_of-under.ensures c.cross_sum-total.result c.cross_sum-total.ensures _ _ c.unsigned_abs.ensures.value c.gcd-rest.ensures _ _ c.signed_part_of-numerator.ensures c.part_of-last.ensures)

pub overflow_mul-under : goal.overflow_mul-under
overflow_mul-under c =
    let ka : word c.in-Some.a ≡ c.in-Some.a = search rules in
    let kc : word c.in-Some-short_terms.c ≡ c.in-Some-short_terms.c = search rules in
    let small = (rest_lowest c.args.left c.args.right c.in-Some.a c.in-Some-short_terms.c _ _ _ _ _
    c.in-Some.ensures c.in-Some-short_terms.ensures ka kc c.denominators_gcd-g.ensures
    c.short_part_of-over.ensures c.short_part_of-under.ensures c.cross_sum-total.result c.cross_sum-total.ensures
    _ _ c.unsigned_abs.ensures.value c.gcd-rest.ensures _ _ c.signed_part_of-numerator.ensures
    c.part_of-last.ensures).under_small in
    omega (arith, small)

pub overflow_cast-under : goal.overflow_cast-under
overflow_cast-under c = omega arith

pub overflow_cast-g : goal.overflow_cast-g
overflow_cast-g c = grind (arith, common_steps)

pub returns-in_default-short_terms : goal.returns-in_default-short_terms
returns-in_default-short_terms c = grind (arith, common_steps)

pub returns-in_default : goal.returns-in_default
returns-in_default c = grind (arith, common_steps)
