use Rattle.cip_bland.proofs.ListEnds as law
use Rattle.cip_bland.proofs.answers_end.Goals as goal

pub returns : goal.returns
returns c = law.answers_end
