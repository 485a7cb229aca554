use Rattle.cip_lp.proofs.LpAnswers.{stays}
use Rattle.cip_lp.proofs.laws.known_lp_faults_stay.Goals as goal

pub returns : goal.returns
returns c = stays c.taken_faults_stay.ensures
