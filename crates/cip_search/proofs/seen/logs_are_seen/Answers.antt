use Rattle.cip_search.proofs.LogsSeen as law
use Rattle.cip_search.proofs.seen.logs_are_seen.Goals as goal

pub returns : goal.returns
returns c = law.logs_are_seen
