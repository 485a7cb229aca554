use Rattle.cip_input.proofs.LeafCounts as leaves
use Rattle.cip_input.proofs.generator_laws.leaves_are_counted.Goals as goal

pub returns : goal.returns
returns c = leaves.leaves_are_counted
