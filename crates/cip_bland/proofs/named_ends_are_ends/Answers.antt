use Rattle.cip_bland.proofs.StateEnds as law
use Rattle.cip_bland.proofs.named_ends_are_ends.Goals as goal

pub returns : goal.returns
returns c = law.named_ends_are_ends
