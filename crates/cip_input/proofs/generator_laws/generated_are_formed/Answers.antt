use Rattle.cip_input.proofs.FormedPrograms as formed
use Rattle.cip_input.proofs.generator_laws.generated_are_formed.Goals as goal

pub returns : goal.returns
returns c = formed.generated_are_formed
