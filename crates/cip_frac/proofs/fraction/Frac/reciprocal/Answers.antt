use Rattle.std.proofs.Common.{◌∙◌, arith}
use Rattle.cip_frac.proofs.Fields.{reciprocal_lowest, reciprocal_ratio, lowest_ratio}
use Rattle.cip_frac.proofs.fraction.Frac.reciprocal.Goals as goal

pub of_lowest-requires : goal.of_lowest-requires
of_lowest-requires c =
    reciprocal_lowest _ _ c.args.self c.terms-numerator.ensures.lowest (lowest_ratio _ _ c.args.self c.terms-numerator.ensures.over c.terms-numerator.ensures.under) c.requires
    c.with_sign.result c.unsigned_abs.result c.with_sign.ensures c.unsigned_abs.ensures.value

pub returns : goal.returns
returns c =
    c.of_lowest.ensures ∙ reciprocal_ratio _ _ c.args.self c.terms-numerator.ensures.lowest (lowest_ratio _ _ c.args.self c.terms-numerator.ensures.over c.terms-numerator.ensures.under) c.requires
    c.with_sign.result c.unsigned_abs.result c.with_sign.ensures c.unsigned_abs.ensures.value

pub with_sign-requires : goal.with_sign-requires
with_sign-requires c = omega arith
