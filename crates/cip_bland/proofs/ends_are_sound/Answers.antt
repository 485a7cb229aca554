use Rattle.cip_bland.proofs.StateEnds as law
use Rattle.cip_bland.proofs.ends_are_sound.Goals as goal

pub returns : goal.returns
returns c = law.ends_are_sound
