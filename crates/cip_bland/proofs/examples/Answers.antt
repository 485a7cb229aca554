use Rattle.cip_bland.proofs.Tried as tried
use Rattle.cip_bland.proofs.examples.Goals as goal

pub returns : goal.returns
returns c = tried.examples
