use Rattle.cip_bland.proofs.StepCases as law
use Rattle.cip_bland.proofs.steps_are_sound.Goals as goal

pub returns : goal.returns
returns c = law.steps_are_sound
