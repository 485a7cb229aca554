use Rattle.cip_search.proofs.SeenEnds as law
use Rattle.cip_search.proofs.seen.searches_are_seen.Goals as goal

pub returns : goal.returns
returns c = law.searches_are_seen
