use Rattle.std.proofs.lemmas.Grind.{common_steps}
use Rattle.std.proofs.Common.{◌≡◌, ◌∙◌, rules, arith}
use Rattle.cip_frac.proofs.ShortSums.{word}
use Rattle.cip_frac.proofs.ShortParts.{g_some, h_some, g_short, h_short, product_fits, product_lowest, product_is}
use Rattle.cip_frac.proofs.operations.short_fraction_product.Goals as goal

pub short_signed_part_of-requires-clause-positive : goal.short_signed_part_of-requires-clause-positive
short_signed_part_of-requires-clause-positive c =
    let ka : word c.in-Some.a ≡ c.in-Some.a = search rules in
    let kc : word c.in-Some-short_terms.c ≡ c.in-Some-short_terms.c = search rules in
    g_some c.args.left c.args.right c.in-Some.a c.in-Some-short_terms.c _ _ _ _ _ _ c.in-Some.ensures c.in-Some-short_terms.ensures ka kc c.unsigned_abs.ensures.value c.short_gcd-g.ensures c.unsigned_abs-2.ensures.value c.short_gcd-h.ensures

pub short_signed_part_of-requires-clause-bounded : goal.short_signed_part_of-requires-clause-bounded
short_signed_part_of-requires-clause-bounded c =
    let ka : word c.in-Some.a ≡ c.in-Some.a = search rules in
    let kc : word c.in-Some-short_terms.c ≡ c.in-Some-short_terms.c = search rules in
    g_short c.args.left c.args.right c.in-Some.a c.in-Some-short_terms.c _ _ _ _ _ _ c.in-Some.ensures c.in-Some-short_terms.ensures ka kc c.unsigned_abs.ensures.value c.short_gcd-g.ensures c.unsigned_abs-2.ensures.value c.short_gcd-h.ensures

pub short_signed_part_of-requires-2-clause-positive : goal.short_signed_part_of-requires-2-clause-positive
short_signed_part_of-requires-2-clause-positive c =
    let ka : word c.in-Some.a ≡ c.in-Some.a = search rules in
    let kc : word c.in-Some-short_terms.c ≡ c.in-Some-short_terms.c = search rules in
    h_some c.args.left c.args.right c.in-Some.a c.in-Some-short_terms.c _ _ _ _ _ _ c.in-Some.ensures c.in-Some-short_terms.ensures ka kc c.unsigned_abs.ensures.value c.short_gcd-g.ensures c.unsigned_abs-2.ensures.value c.short_gcd-h.ensures

pub short_signed_part_of-requires-2-clause-bounded : goal.short_signed_part_of-requires-2-clause-bounded
short_signed_part_of-requires-2-clause-bounded c =
    let ka : word c.in-Some.a ≡ c.in-Some.a = search rules in
    let kc : word c.in-Some-short_terms.c ≡ c.in-Some-short_terms.c = search rules in
    h_short c.args.left c.args.right c.in-Some.a c.in-Some-short_terms.c _ _ _ _ _ _ c.in-Some.ensures c.in-Some-short_terms.ensures ka kc c.unsigned_abs.ensures.value c.short_gcd-g.ensures c.unsigned_abs-2.ensures.value c.short_gcd-h.ensures

pub short_part_of-requires : goal.short_part_of-requires
short_part_of-requires c =
    let ka : word c.in-Some.a ≡ c.in-Some.a = search rules in
    let kc : word c.in-Some-short_terms.c ≡ c.in-Some-short_terms.c = search rules in
    h_some c.args.left c.args.right c.in-Some.a c.in-Some-short_terms.c _ _ _ _ _ _ c.in-Some.ensures c.in-Some-short_terms.ensures ka kc c.unsigned_abs.ensures.value c.short_gcd-g.ensures c.unsigned_abs-2.ensures.value c.short_gcd-h.ensures

pub short_part_of-requires-2 : goal.short_part_of-requires-2
short_part_of-requires-2 c =
    let ka : word c.in-Some.a ≡ c.in-Some.a = search rules in
    let kc : word c.in-Some-short_terms.c ≡ c.in-Some-short_terms.c = search rules in
    g_some c.args.left c.args.right c.in-Some.a c.in-Some-short_terms.c _ _ _ _ _ _ c.in-Some.ensures c.in-Some-short_terms.ensures ka kc c.unsigned_abs.ensures.value c.short_gcd-g.ensures c.unsigned_abs-2.ensures.value c.short_gcd-h.ensures

pub of_lowest-requires : goal.of_lowest-requires
of_lowest-requires c =
    let ka : word c.in-Some.a ≡ c.in-Some.a = search rules in
    let kc : word c.in-Some-short_terms.c ≡ c.in-Some-short_terms.c = search rules in
    let kp : word c.short_signed_part_of.result ≡ c.short_signed_part_of.result = search rules in
    let kq : word c.short_signed_part_of-2.result ≡ c.short_signed_part_of-2.result = search rules in
    product_lowest c.args.left c.args.right c.in-Some.a c.in-Some-short_terms.c _ _ _ _ _ _ c.in-Some.ensures c.in-Some-short_terms.ensures ka kc c.unsigned_abs.ensures.value c.short_gcd-g.ensures c.unsigned_abs-2.ensures.value c.short_gcd-h.ensures
    _ _ _ _ _ _ c.short_signed_part_of.ensures c.short_signed_part_of-2.ensures kp kq c.wide_product-numerator.ensures.value c.wide_product-numerator.ensures.small c.short_part_of.ensures c.short_part_of-2.ensures c.wide_common-denominator.ensures

pub returns : goal.returns
returns c =
    let ka : word c.in-Some.a ≡ c.in-Some.a = search rules in
    let kc : word c.in-Some-short_terms.c ≡ c.in-Some-short_terms.c = search rules in
    let kp : word c.short_signed_part_of.result ≡ c.short_signed_part_of.result = search rules in
    let kq : word c.short_signed_part_of-2.result ≡ c.short_signed_part_of-2.result = search rules in (
      product_fits c.args.left c.args.right c.in-Some.a c.in-Some-short_terms.c _ _ _ _ _ _ c.in-Some.ensures c.in-Some-short_terms.ensures ka kc c.unsigned_abs.ensures.value c.short_gcd-g.ensures c.unsigned_abs-2.ensures.value c.short_gcd-h.ensures
          _ _ _ _ _ _ c.short_signed_part_of.ensures c.short_signed_part_of-2.ensures kp kq c.wide_product-numerator.ensures.value c.wide_product-numerator.ensures.small c.short_part_of.ensures c.short_part_of-2.ensures c.wide_common-denominator.ensures,
      c.of_lowest.ensures ∙ product_is c.args.left c.args.right c.in-Some.a c.in-Some-short_terms.c _ _ _ _ _ _ c.in-Some.ensures c.in-Some-short_terms.ensures ka kc c.unsigned_abs.ensures.value c.short_gcd-g.ensures c.unsigned_abs-2.ensures.value c.short_gcd-h.ensures
          _ _ _ _ _ _ c.short_signed_part_of.ensures c.short_signed_part_of-2.ensures kp kq c.wide_product-numerator.ensures.value c.wide_product-numerator.ensures.small c.short_part_of.ensures c.short_part_of-2.ensures c.wide_common-denominator.ensures,
    )

pub returns-in_default-short_terms : goal.returns-in_default-short_terms
returns-in_default-short_terms c = grind (arith, common_steps)

pub returns-in_default : goal.returns-in_default
returns-in_default c = grind (arith, common_steps)
