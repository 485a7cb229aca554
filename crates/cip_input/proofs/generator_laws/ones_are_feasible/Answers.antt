use Rattle.cip_input.proofs.FeasibleOnes as ones
use Rattle.cip_input.proofs.generator_laws.ones_are_feasible.Goals as goal

pub returns : goal.returns
returns c = ones.ones_are_feasible
