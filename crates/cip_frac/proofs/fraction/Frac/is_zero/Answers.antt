use Rattle.cip_frac.proofs.Fields.{zero_test, lowest_ratio}
use Rattle.cip_frac.proofs.fraction.Frac.is_zero.Goals as goal

pub returns : goal.returns
returns c =
    zero_test _ _ c.args.self c.terms.ensures.lowest (lowest_ratio _ _ c.args.self c.terms.ensures.over c.terms.ensures.under)
