use Rattle.cip_problem.proofs.Log.Given.{node_of_log}
use Rattle.cip_problem.proofs.logs_give_nodes.Goals as goal

pub returns : goal.returns
returns c = node_of_log
