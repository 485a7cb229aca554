use Rattle.cip_relax.proofs.Told.{told}
use Rattle.cip_relax.proofs.bound_laws.node_programs_tell.Goals as goal

pub returns : goal.returns
returns c = told
