use Rattle.cip_frac.proofs.Fields.{whole_test, lowest_ratio}
use Rattle.cip_frac.proofs.fraction.Frac.is_whole.Goals as goal

pub returns : goal.returns
returns c = whole_test _ _ c.args.self c.terms.ensures.lowest (lowest_ratio _ _ c.args.self c.terms.ensures.over c.terms.ensures.under)
