use Rattle.cip_search.proofs.SeenTried as tried
use Rattle.cip_search.proofs.seen.examples.Goals as goal

pub returns : goal.returns
returns c = tried.examples
