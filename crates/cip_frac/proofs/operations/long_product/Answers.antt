use Rattle.std.proofs.Common.{◌∙◌}
use Rattle.cip_frac.proofs.Products.{parts, first_some, second_some, first_small, second_small, numerator_none, denominator_none, all_fit, lowest, is_product}
use Rattle.cip_frac.proofs.operations.long_product.Goals as goal

pub signed_part_of-first-requires-clause-positive : goal.signed_part_of-first-requires-clause-positive
signed_part_of-first-requires-clause-positive c =
    let w = parts c.terms-a.ensures.over c.terms-a.ensures.under c.terms-a.ensures.lowest c.terms-c.ensures.over c.terms-c.ensures.under c.terms-c.ensures.lowest c.unsigned_abs.ensures.value c.gcd-g.ensures c.unsigned_abs-2.ensures.value c.gcd-h.ensures in
    first_some w

pub signed_part_of-first-requires-clause-bounded : goal.signed_part_of-first-requires-clause-bounded
signed_part_of-first-requires-clause-bounded c =
    let w = parts c.terms-a.ensures.over c.terms-a.ensures.under c.terms-a.ensures.lowest c.terms-c.ensures.over c.terms-c.ensures.under c.terms-c.ensures.lowest c.unsigned_abs.ensures.value c.gcd-g.ensures c.unsigned_abs-2.ensures.value c.gcd-h.ensures in
    first_small w

pub signed_part_of-second-requires-clause-positive : goal.signed_part_of-second-requires-clause-positive
signed_part_of-second-requires-clause-positive c =
    let w = parts c.terms-a.ensures.over c.terms-a.ensures.under c.terms-a.ensures.lowest c.terms-c.ensures.over c.terms-c.ensures.under c.terms-c.ensures.lowest c.unsigned_abs.ensures.value c.gcd-g.ensures c.unsigned_abs-2.ensures.value c.gcd-h.ensures in
    second_some w

pub signed_part_of-second-requires-clause-bounded : goal.signed_part_of-second-requires-clause-bounded
signed_part_of-second-requires-clause-bounded c =
    let w = parts c.terms-a.ensures.over c.terms-a.ensures.under c.terms-a.ensures.lowest c.terms-c.ensures.over c.terms-c.ensures.under c.terms-c.ensures.lowest c.unsigned_abs.ensures.value c.gcd-g.ensures c.unsigned_abs-2.ensures.value c.gcd-h.ensures in
    second_small w

pub returns-in_default : goal.returns-in_default
returns-in_default c =
    let w = parts c.terms-a.ensures.over c.terms-a.ensures.under c.terms-a.ensures.lowest c.terms-c.ensures.over c.terms-c.ensures.under c.terms-c.ensures.lowest c.unsigned_abs.ensures.value c.gcd-g.ensures c.unsigned_abs-2.ensures.value c.gcd-h.ensures in
    numerator_none w c.signed_part_of-first.ensures c.signed_part_of-second.ensures c.in_default.ensures

pub part_of-under-requires : goal.part_of-under-requires
part_of-under-requires c =
    let w = parts c.terms-a.ensures.over c.terms-a.ensures.under c.terms-a.ensures.lowest c.terms-c.ensures.over c.terms-c.ensures.under c.terms-c.ensures.lowest c.unsigned_abs.ensures.value c.gcd-g.ensures c.unsigned_abs-2.ensures.value c.gcd-h.ensures in
    second_some w

pub part_of-over-requires : goal.part_of-over-requires
part_of-over-requires c =
    let w = parts c.terms-a.ensures.over c.terms-a.ensures.under c.terms-a.ensures.lowest c.terms-c.ensures.over c.terms-c.ensures.under c.terms-c.ensures.lowest c.unsigned_abs.ensures.value c.gcd-g.ensures c.unsigned_abs-2.ensures.value c.gcd-h.ensures in
    first_some w

pub returns-in_default-bounded_common : goal.returns-in_default-bounded_common
returns-in_default-bounded_common c =
    let w = parts c.terms-a.ensures.over c.terms-a.ensures.under c.terms-a.ensures.lowest c.terms-c.ensures.over c.terms-c.ensures.under c.terms-c.ensures.lowest c.unsigned_abs.ensures.value c.gcd-g.ensures c.unsigned_abs-2.ensures.value c.gcd-h.ensures in
    denominator_none w c.signed_part_of-first.ensures c.signed_part_of-second.ensures c.part_of-under.ensures c.part_of-over.ensures c.in_default-bounded_common.ensures

pub of_lowest-requires : goal.of_lowest-requires
of_lowest-requires c =
    let w = parts c.terms-a.ensures.over c.terms-a.ensures.under c.terms-a.ensures.lowest c.terms-c.ensures.over c.terms-c.ensures.under c.terms-c.ensures.lowest c.unsigned_abs.ensures.value c.gcd-g.ensures c.unsigned_abs-2.ensures.value c.gcd-h.ensures in
    lowest w c.signed_part_of-first.ensures c.signed_part_of-second.ensures c.part_of-under.ensures c.part_of-over.ensures c.in-Some.ensures c.in-Some-bounded_common.ensures

pub returns : goal.returns
returns c =
    let w = parts c.terms-a.ensures.over c.terms-a.ensures.under c.terms-a.ensures.lowest c.terms-c.ensures.over c.terms-c.ensures.under c.terms-c.ensures.lowest c.unsigned_abs.ensures.value c.gcd-g.ensures c.unsigned_abs-2.ensures.value c.gcd-h.ensures in
    (all_fit w c.signed_part_of-first.ensures c.signed_part_of-second.ensures c.part_of-under.ensures c.part_of-over.ensures c.in-Some.ensures c.in-Some-bounded_common.ensures, c.of_lowest.ensures ∙ is_product w c.signed_part_of-first.ensures c.signed_part_of-second.ensures c.part_of-under.ensures c.part_of-over.ensures c.in-Some.ensures c.in-Some-bounded_common.ensures)
