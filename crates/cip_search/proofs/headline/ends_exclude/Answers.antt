use Rattle.cip_search.proofs.Ends as law
use Rattle.cip_search.proofs.headline.ends_exclude.Goals as goal

pub returns : goal.returns
returns c = law.ends_exclude
