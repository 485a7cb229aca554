use Rattle.cip_search.proofs.Ends as law
use Rattle.cip_search.proofs.headline.budgets_suffice.Goals as goal

pub returns : goal.returns
returns c = law.budgets_suffice
