use Rattle.cip_bland.proofs.StepCases as law
use Rattle.cip_bland.proofs.first_is_state.Goals as goal

pub returns : goal.returns
returns c = law.first_is_state
