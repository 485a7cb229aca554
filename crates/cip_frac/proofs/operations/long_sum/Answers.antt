use Rattle.std.proofs.Common.{◌∙◌, arith}
use Rattle.cip_frac.proofs.Divisors.{positive_from_IsGcd}
use Rattle.cip_frac.proofs.SumSteps.{known, first_none, second_none, total_none, common_none, all_fit, short_lowest, short_ratio, rest_is_some, rest_small, last_fits, last_lowest, last_ratio}
use Rattle.cip_frac.proofs.operations.long_sum.Goals as goal

pub part_of-over-requires : goal.part_of-over-requires
part_of-over-requires c =
    positive_from_IsGcd _ _ _ c.terms-c.ensures.lowest.positive c.gcd-g.ensures

pub part_of-under-requires : goal.part_of-under-requires
part_of-under-requires c =
    positive_from_IsGcd _ _ _ c.terms-c.ensures.lowest.positive c.gcd-g.ensures

pub returns-in_default : goal.returns-in_default
returns-in_default c =
    let k = known c.terms-a.ensures.over c.terms-a.ensures.under c.terms-a.ensures.lowest c.terms-c.ensures.over c.terms-c.ensures.under c.terms-c.ensures.lowest c.gcd-g.ensures c.part_of-over.ensures c.part_of-under.ensures in
    first_none k c.in_default.ensures

pub returns-in_default-raised : goal.returns-in_default-raised
returns-in_default-raised c =
    let k = known c.terms-a.ensures.over c.terms-a.ensures.under c.terms-a.ensures.lowest c.terms-c.ensures.over c.terms-c.ensures.under c.terms-c.ensures.lowest c.gcd-g.ensures c.part_of-over.ensures c.part_of-under.ensures in
    second_none k c.in_default-raised.ensures

pub returns-in_default-bounded_sum : goal.returns-in_default-bounded_sum
returns-in_default-bounded_sum c =
    let k = known c.terms-a.ensures.over c.terms-a.ensures.under c.terms-a.ensures.lowest c.terms-c.ensures.over c.terms-c.ensures.under c.terms-c.ensures.lowest c.gcd-g.ensures c.part_of-over.ensures c.part_of-under.ensures in
    total_none k c.in-Some.ensures c.in-Some-raised.ensures c.in_default-bounded_sum.ensures

pub returns-in_default-bounded_common : goal.returns-in_default-bounded_common
returns-in_default-bounded_common c =
    let k = known c.terms-a.ensures.over c.terms-a.ensures.under c.terms-a.ensures.lowest c.terms-c.ensures.over c.terms-c.ensures.under c.terms-c.ensures.lowest c.gcd-g.ensures c.part_of-over.ensures c.part_of-under.ensures in
    common_none k c.in_default-bounded_common.ensures

pub of_lowest-requires : goal.of_lowest-requires
of_lowest-requires c =
    let k = known c.terms-a.ensures.over c.terms-a.ensures.under c.terms-a.ensures.lowest c.terms-c.ensures.over c.terms-c.ensures.under c.terms-c.ensures.lowest c.gcd-g.ensures c.part_of-over.ensures c.part_of-under.ensures in
    short_lowest k c.in-Some.ensures c.in-Some-raised.ensures c.in-Some-bounded_sum.ensures c.in-Some-bounded_common.ensures c.if-g-eq1.true

pub returns-then-g-eq1 : goal.returns-then-g-eq1
returns-then-g-eq1 c =
    let k = known c.terms-a.ensures.over c.terms-a.ensures.under c.terms-a.ensures.lowest c.terms-c.ensures.over c.terms-c.ensures.under c.terms-c.ensures.lowest c.gcd-g.ensures c.part_of-over.ensures c.part_of-under.ensures in
    (all_fit k c.in-Some.ensures c.in-Some-raised.ensures c.in-Some-bounded_sum.ensures c.in-Some-bounded_common.ensures, c.of_lowest.ensures ∙ short_ratio k c.in-Some.ensures c.in-Some-raised.ensures c.in-Some-bounded_sum.ensures c.in-Some-bounded_common.ensures c.if-g-eq1.true)

pub signed_part_of-numerator-requires-clause-positive : goal.signed_part_of-numerator-requires-clause-positive
signed_part_of-numerator-requires-clause-positive c =
    let k = known c.terms-a.ensures.over c.terms-a.ensures.under c.terms-a.ensures.lowest c.terms-c.ensures.over c.terms-c.ensures.under c.terms-c.ensures.lowest c.gcd-g.ensures c.part_of-over.ensures c.part_of-under.ensures in
    rest_is_some k c.in-Some.ensures c.in-Some-raised.ensures c.in-Some-bounded_sum.ensures c.in-Some-bounded_common.ensures c.unsigned_abs.ensures.value c.gcd-rest.ensures

pub signed_part_of-numerator-requires-clause-bounded : goal.signed_part_of-numerator-requires-clause-bounded
signed_part_of-numerator-requires-clause-bounded c =
    let k = known c.terms-a.ensures.over c.terms-a.ensures.under c.terms-a.ensures.lowest c.terms-c.ensures.over c.terms-c.ensures.under c.terms-c.ensures.lowest c.gcd-g.ensures c.part_of-over.ensures c.part_of-under.ensures in
    rest_small k c.in-Some.ensures c.in-Some-raised.ensures c.in-Some-bounded_sum.ensures c.in-Some-bounded_common.ensures c.unsigned_abs.ensures.value c.gcd-rest.ensures

pub part_of-last-requires : goal.part_of-last-requires
part_of-last-requires c =
    let k = known c.terms-a.ensures.over c.terms-a.ensures.under c.terms-a.ensures.lowest c.terms-c.ensures.over c.terms-c.ensures.under c.terms-c.ensures.lowest c.gcd-g.ensures c.part_of-over.ensures c.part_of-under.ensures in
    rest_is_some k c.in-Some.ensures c.in-Some-raised.ensures c.in-Some-bounded_sum.ensures c.in-Some-bounded_common.ensures c.unsigned_abs.ensures.value c.gcd-rest.ensures

pub overflow_mul-under : goal.overflow_mul-under
overflow_mul-under c =
    let k = known c.terms-a.ensures.over c.terms-a.ensures.under c.terms-a.ensures.lowest c.terms-c.ensures.over c.terms-c.ensures.under c.terms-c.ensures.lowest c.gcd-g.ensures c.part_of-over.ensures c.part_of-under.ensures in
    last_fits k c.in-Some.ensures c.in-Some-raised.ensures c.in-Some-bounded_sum.ensures c.in-Some-bounded_common.ensures c.unsigned_abs.ensures.value c.gcd-rest.ensures c.signed_part_of-numerator.ensures c.part_of-last.ensures

pub of_lowest-requires-2 : goal.of_lowest-requires-2
of_lowest-requires-2 c =
    let k = known c.terms-a.ensures.over c.terms-a.ensures.under c.terms-a.ensures.lowest c.terms-c.ensures.over c.terms-c.ensures.under c.terms-c.ensures.lowest c.gcd-g.ensures c.part_of-over.ensures c.part_of-under.ensures in
    last_lowest k c.in-Some.ensures c.in-Some-raised.ensures c.in-Some-bounded_sum.ensures c.in-Some-bounded_common.ensures c.unsigned_abs.ensures.value c.gcd-rest.ensures c.signed_part_of-numerator.ensures c.part_of-last.ensures

pub returns : goal.returns
returns c =
    let k = known c.terms-a.ensures.over c.terms-a.ensures.under c.terms-a.ensures.lowest c.terms-c.ensures.over c.terms-c.ensures.under c.terms-c.ensures.lowest c.gcd-g.ensures c.part_of-over.ensures c.part_of-under.ensures in
    (all_fit k c.in-Some.ensures c.in-Some-raised.ensures c.in-Some-bounded_sum.ensures c.in-Some-bounded_common.ensures, c.of_lowest-2.ensures ∙ last_ratio k c.in-Some.ensures c.in-Some-raised.ensures c.in-Some-bounded_sum.ensures c.in-Some-bounded_common.ensures c.unsigned_abs.ensures.value c.gcd-rest.ensures c.signed_part_of-numerator.ensures c.part_of-last.ensures)

pub raised-requires : goal.raised-requires
raised-requires c = omega arith

pub raised-requires-2 : goal.raised-requires-2
raised-requires-2 c = omega arith
