use Rattle.cip_frac.proofs.Fields.{positive_test, lowest_ratio}
use Rattle.cip_frac.proofs.fraction.Frac.is_positive.Goals as goal

pub returns : goal.returns
returns c =
    positive_test _ _ c.args.self c.terms.ensures.lowest (lowest_ratio _ _ c.args.self c.terms.ensures.over c.terms.ensures.under)
