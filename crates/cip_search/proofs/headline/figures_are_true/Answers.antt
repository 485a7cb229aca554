use Rattle.cip_search.proofs.TrueFigures as law
use Rattle.cip_search.proofs.headline.figures_are_true.Goals as goal

pub returns : goal.returns
returns c = law.figures_are_true
