use Rattle.cip_bland.proofs.Programs as law
use Rattle.cip_bland.proofs.dictionaries.programs_are_told.Goals as goal

pub returns : goal.returns
returns c = law.programs_are_told
