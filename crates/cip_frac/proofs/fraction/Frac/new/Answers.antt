use Rattle.std.proofs.lemmas.Grind.{common_steps}
use Rattle.std.proofs.Common.{◌∙◌, arith}
use Rattle.cip_frac.proofs.Quotients.{common_some, quotient_wide, quotient_lowest, quotient_value}
use Rattle.cip_frac.proofs.fraction.Frac.new.Goals as goal

pub nonzero_div-size : goal.nonzero_div-size
nonzero_div-size c =
    common_some c.args.p c.args.q c.ranges.p c.ranges.q c.if-q-eq0.false c.unsigned_abs-over.result c.unsigned_abs-under.result c.gcd-common.result c.unsigned_abs-over.ensures.value c.unsigned_abs-under.ensures.value c.gcd-common.ensures

pub nonzero_div-denominator : goal.nonzero_div-denominator
nonzero_div-denominator c =
    common_some c.args.p c.args.q c.ranges.p c.ranges.q c.if-q-eq0.false c.unsigned_abs-over.result c.unsigned_abs-under.result c.gcd-common.result c.unsigned_abs-over.ensures.value c.unsigned_abs-under.ensures.value c.gcd-common.ensures

pub returns-then-size-gt-LARGEST : goal.returns-then-size-gt-LARGEST
returns-then-size-gt-LARGEST c =
    quotient_wide c.args.p c.args.q c.ranges.p c.ranges.q c.if-q-eq0.false c.unsigned_abs-over.result c.unsigned_abs-under.result c.gcd-common.result c.unsigned_abs-over.ensures.value c.unsigned_abs-under.ensures.value c.gcd-common.ensures c.then-size-gt-LARGEST.either

pub of_lowest-requires : goal.of_lowest-requires
of_lowest-requires c =
    quotient_lowest c.args.p c.args.q c.ranges.p c.ranges.q c.if-q-eq0.false c.unsigned_abs-over.result c.unsigned_abs-under.result c.gcd-common.result c.unsigned_abs-over.ensures.value c.unsigned_abs-under.ensures.value c.gcd-common.ensures c.with_sign-numerator.result c.with_sign-numerator.ensures c.if-size-gt-LARGEST.false c.if-denominator-gt-LARGEST.false

pub returns : goal.returns
returns c =
    let is = quotient_value c.args.p c.args.q c.ranges.p c.ranges.q c.if-q-eq0.false c.unsigned_abs-over.result c.unsigned_abs-under.result c.gcd-common.result c.unsigned_abs-over.ensures.value c.unsigned_abs-under.ensures.value c.gcd-common.ensures c.with_sign-numerator.result c.with_sign-numerator.ensures c.if-size-gt-LARGEST.false c.if-denominator-gt-LARGEST.false in
    (is.0, c.of_lowest.ensures ∙ is.1)

pub with_sign-numerator-requires : goal.with_sign-numerator-requires
with_sign-numerator-requires c = omega arith

pub returns-then-q-eq0 : goal.returns-then-q-eq0
returns-then-q-eq0 c = grind (arith, common_steps)
