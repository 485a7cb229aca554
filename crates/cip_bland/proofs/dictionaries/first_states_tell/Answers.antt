use Rattle.cip_bland.proofs.First as law
use Rattle.cip_bland.proofs.dictionaries.first_states_tell.Goals as goal

pub returns : goal.returns
returns c = law.first_states_tell
