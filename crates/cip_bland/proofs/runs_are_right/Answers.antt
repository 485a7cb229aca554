use Rattle.cip_bland.proofs.RunFacts as law
use Rattle.cip_bland.proofs.runs_are_right.Goals as goal

pub returns : goal.returns
returns c = law.runs_are_right
