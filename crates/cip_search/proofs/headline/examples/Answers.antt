use Rattle.cip_search.proofs.HeadlineTried as tried
use Rattle.cip_search.proofs.headline.examples.Goals as goal

pub returns : goal.returns
returns c = tried.examples
