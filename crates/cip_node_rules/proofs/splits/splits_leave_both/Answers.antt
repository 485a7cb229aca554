use Rattle.cip_node_rules.proofs.BothSides.{leave_both}
use Rattle.cip_node_rules.proofs.splits.splits_leave_both.Goals as goal

pub returns : goal.returns
returns c = leave_both
