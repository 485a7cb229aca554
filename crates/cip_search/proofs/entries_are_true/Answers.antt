use Rattle.cip_search.proofs.Logs as logs
use Rattle.cip_search.proofs.entries_are_true.Goals as goal

pub returns : goal.returns
returns c = logs.entries_are_true
