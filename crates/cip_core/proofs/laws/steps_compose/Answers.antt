use Rattle.cip_core.proofs.Relations as relations
use Rattle.cip_core.proofs.laws.steps_compose.Goals as goal

pub returns : goal.returns
returns c = relations.steps_compose
