use Rattle.std.proofs.Common.{◌≡◌, rules}
use Rattle.cip_frac.proofs.BoundedProducts.{words_product, checked_some, checked_least, checked_none}
use Rattle.cip_frac.proofs.ShortSums.{word}
use Rattle.cip_frac.proofs.bounded.bounded_product.Goals as goal

pub returns-in-Some-short : goal.returns-in-Some-short
returns-in-Some-short c =
    let kl : word c.in-Some.left ≡ c.in-Some.left = search rules in
    let kr : word c.in-Some-short.right ≡ c.in-Some-short.right = search rules in
    words_product c.args.a c.args.b c.ranges.a c.ranges.b c.in-Some.left c.in-Some-short.right c.wide_product.result kl kr c.in-Some.ensures.0 c.in-Some-short.ensures.0 c.wide_product.ensures.value c.wide_product.ensures.small

pub returns-in-Some-checked_mul : goal.returns-in-Some-checked_mul
returns-in-Some-checked_mul c =
    checked_some c.args.a c.args.b c.ranges.a c.ranges.b c.in-Some-checked_mul.product c.in-Some-checked_mul.ensures.0 c.in-Some-checked_mul.ensures.1 c.if-product.true

pub returns-in_default-checked_mul : goal.returns-in_default-checked_mul
returns-in_default-checked_mul c =
    checked_least c.args.a c.args.b c.ranges.a c.ranges.b c.in-Some-checked_mul.product c.in-Some-checked_mul.ensures.0 c.in-Some-checked_mul.ensures.1 c.if-product.false

pub returns-in_default-checked_mul-2 : goal.returns-in_default-checked_mul-2
returns-in_default-checked_mul-2 c = checked_none c.args.a c.args.b c.ranges.a c.ranges.b c.in_default-checked_mul.ensures
