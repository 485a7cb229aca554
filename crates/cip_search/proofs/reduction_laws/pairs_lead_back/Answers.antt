use Rattle.cip_search.proofs.Returning.{pair_reduction, pair_way_back}
use Rattle.cip_search.proofs.reduction_laws.pairs_lead_back.Goals as goal

pub returns : goal.returns
returns c = record { reduction = pair_reduction; way_back = pair_way_back }
