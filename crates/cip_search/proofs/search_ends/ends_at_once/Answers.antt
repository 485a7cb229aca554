use Rattle.cip_search.proofs.AtOnce as law
use Rattle.cip_search.proofs.search_ends.ends_at_once.Goals as goal

pub returns : goal.returns
returns c = law.ends_at_once
