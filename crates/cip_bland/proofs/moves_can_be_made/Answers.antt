use Rattle.cip_bland.proofs.StepCases as law
use Rattle.cip_bland.proofs.moves_can_be_made.Goals as goal

pub returns : goal.returns
returns c = law.moves_can_be_made
