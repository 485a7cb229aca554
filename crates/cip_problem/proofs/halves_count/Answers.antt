use Rattle.cip_problem.proofs.Log.Halves as halves
use Rattle.cip_problem.proofs.halves_count.Goals as goal

pub returns : goal.returns
returns c = halves.halves_count
