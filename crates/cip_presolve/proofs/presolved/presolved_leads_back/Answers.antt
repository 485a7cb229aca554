use Rattle.cip_presolve.proofs.LeadsBack.{leads_back}
use Rattle.cip_presolve.proofs.presolved.presolved_leads_back.Goals as goal

pub returns : goal.returns
returns c program presolved formed left p =
    leads_back program presolved.reduced presolved.steps formed left p.pair p.numbers.whole p.numbers.left
