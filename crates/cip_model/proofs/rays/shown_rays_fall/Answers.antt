use Rattle.cip_model.proofs.Meaning.Ray as ray
use Rattle.cip_model.proofs.rays.shown_rays_fall.Goals as goal

pub returns : goal.returns
returns c = ray.shown_rays_fall
