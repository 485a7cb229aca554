use Rattle.cip_search.proofs.Endless as law
use Rattle.cip_search.proofs.headline.rays_exclude_bounds.Goals as goal

pub returns : goal.returns
returns c = law.rays_exclude_bounds
