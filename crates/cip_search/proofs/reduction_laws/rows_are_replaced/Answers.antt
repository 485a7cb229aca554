use Rattle.cip_search.proofs.RowSteps.{dropped, broken, single_taken, merged}
use Rattle.cip_search.proofs.reduction_laws.rows_are_replaced.Goals as goal

pub returns : goal.returns
returns c = record { dropped = dropped; broken = broken; single = single_taken; merged = merged }
