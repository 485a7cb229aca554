use Rattle.cip_simplex.proofs.SlackStart as laws
use Rattle.cip_simplex.proofs.laws.slack_is_first.Goals as goal

pub returns : goal.returns
returns c = laws.slack_is_first
