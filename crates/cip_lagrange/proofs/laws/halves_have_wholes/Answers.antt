use Rattle.cip_lagrange.proofs.HalvedSides.{halved_means}
use Rattle.cip_lagrange.proofs.laws.halves_have_wholes.Goals as goal

pub returns : goal.returns
returns c = halved_means
