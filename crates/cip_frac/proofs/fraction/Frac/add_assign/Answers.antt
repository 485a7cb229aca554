use Rattle.std.proofs.Common.{refl}
use Rattle.cip_frac.proofs.Outcomes.{outcome_ok, outcome_err}
use Rattle.cip_frac.proofs.fraction.Frac.add_assign.Goals as goal

pub returns-in_default : goal.returns-in_default
returns-in_default c = (outcome_err _ _ _ c.in_default.ensures, refl)

pub returns : goal.returns
returns c = outcome_ok _ _ _ _ c.in-Some.ensures.0 c.in-Some.ensures.1
