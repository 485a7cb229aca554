use Rattle.std.proofs.Common.{◌∙◌}
use Rattle.cip_frac.proofs.Fields.{absolute_negative, absolute_other, lowest_ratio}
use Rattle.cip_frac.proofs.fraction.Frac.abs.Goals as goal

pub returns-then-numerator-lt0 : goal.returns-then-numerator-lt0
returns-then-numerator-lt0 c =
    c.neg.ensures ∙ absolute_negative _ _ c.args.self c.terms-numerator.ensures.lowest (lowest_ratio _ _ c.args.self c.terms-numerator.ensures.over c.terms-numerator.ensures.under) c.if-numerator-lt0.true

pub returns-else-numerator-lt0 : goal.returns-else-numerator-lt0
returns-else-numerator-lt0 c =
    absolute_other _ _ c.args.self c.terms-numerator.ensures.lowest (lowest_ratio _ _ c.args.self c.terms-numerator.ensures.over c.terms-numerator.ensures.under) c.if-numerator-lt0.false
