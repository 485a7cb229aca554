use Rattle.cip_bland.proofs.ListEnds as law
use Rattle.cip_bland.proofs.lists_end.Goals as goal

pub returns : goal.returns
returns c = law.lists_end
