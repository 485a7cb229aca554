use Rattle.std.proofs.lemmas.Grind.{common_steps}
use Rattle.std.proofs.Common.{◌∙◌, arith}
use Rattle.cip_frac.proofs.Reduced.{divisor_some, whole_lowest, part_lowest, part_ratio}
use Rattle.cip_frac.proofs.fraction.Frac.reduced.Goals as goal

pub of_lowest-requires : goal.of_lowest-requires
of_lowest-requires c =
    whole_lowest c.args.total c.args.common _ _ c.ranges.total c.ranges.common.fits c.unsigned_abs-size.ensures.value c.requires c.short_gcd-g.ensures c.if-g-eq1.true

pub nonzero_div-size : goal.nonzero_div-size
nonzero_div-size c =
    divisor_some c.args.total c.args.common _ _ c.ranges.total c.ranges.common.fits c.unsigned_abs-size.ensures.value c.requires c.short_gcd-g.ensures

pub nonzero_div-common : goal.nonzero_div-common
nonzero_div-common c =
    divisor_some c.args.total c.args.common _ _ c.ranges.total c.ranges.common.fits c.unsigned_abs-size.ensures.value c.requires c.short_gcd-g.ensures

pub of_lowest-requires-2 : goal.of_lowest-requires-2
of_lowest-requires-2 c =
    part_lowest c.args.total c.args.common _ _ c.ranges.total c.ranges.common.fits c.unsigned_abs-size.ensures.value c.requires c.short_gcd-g.ensures
    _ c.with_sign-numerator.ensures

pub returns : goal.returns
returns c =
    c.of_lowest-2.ensures ∙ part_ratio c.args.total c.args.common _ _ c.ranges.total c.ranges.common.fits c.unsigned_abs-size.ensures.value c.requires c.short_gcd-g.ensures
    _ c.with_sign-numerator.ensures

pub returns-then-g-eq1 : goal.returns-then-g-eq1
returns-then-g-eq1 c = grind (arith, common_steps)

pub overflow_cast-total : goal.overflow_cast-total
overflow_cast-total c = grind (arith, common_steps)

pub overflow_cast-common-2 : goal.overflow_cast-common-2
overflow_cast-common-2 c = grind (arith, common_steps)

pub overflow_cast-size : goal.overflow_cast-size
overflow_cast-size c = grind (arith, common_steps)

pub with_sign-numerator-requires : goal.with_sign-numerator-requires
with_sign-numerator-requires c = grind (arith, common_steps)
