use Rattle.cip_frac.proofs.Fields.{negative_test, lowest_ratio}
use Rattle.cip_frac.proofs.fraction.Frac.is_negative.Goals as goal

pub returns : goal.returns
returns c =
    negative_test _ _ c.args.self c.terms.ensures.lowest (lowest_ratio _ _ c.args.self c.terms.ensures.over c.terms.ensures.under)
