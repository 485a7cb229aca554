use Rattle.cip_search.proofs.EndsRight as law
use Rattle.cip_search.proofs.search_ends.ends_are_right.Goals as goal

pub returns : goal.returns
returns c = law.ends_are_right
