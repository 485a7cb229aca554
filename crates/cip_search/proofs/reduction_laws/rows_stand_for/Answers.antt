use Rattle.cip_search.proofs.Replacing.{row_replaced}
use Rattle.cip_search.proofs.reduction_laws.rows_stand_for.Goals as goal

pub returns : goal.returns
returns c = row_replaced
