use Rattle.cip_problem.proofs.Log.Length.{log_is_short}
use Rattle.cip_problem.proofs.logs_are_short.Goals as goal

pub returns : goal.returns
returns c = log_is_short
