use Rattle.std.proofs.Common.{◌∙◌}
use Rattle.cip_frac.proofs.Fields.{negated_lowest, negated_ratio, lowest_ratio}
use Rattle.cip_frac.proofs.Casts.{negated_fits}
use Rattle.cip_frac.proofs.fraction.Frac.neg.Goals as goal

pub of_lowest-requires : goal.of_lowest-requires
of_lowest-requires c = negated_lowest _ _ c.terms-numerator.ensures.lowest

pub returns : goal.returns
returns c =
    c.of_lowest.ensures ∙ negated_ratio _ _ c.args.self c.terms-numerator.ensures.lowest (lowest_ratio _ _ c.args.self c.terms-numerator.ensures.over c.terms-numerator.ensures.under)

pub overflow_sub-numerator : goal.overflow_sub-numerator
overflow_sub-numerator c =
    negated_fits c.terms-numerator.result.0 c.terms-numerator.ensures.lowest.over_small
