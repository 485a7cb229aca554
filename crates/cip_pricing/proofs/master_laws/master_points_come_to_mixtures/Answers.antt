use Rattle.cip_pricing.proofs.Points.{comes_to}
use Rattle.cip_pricing.proofs.master_laws.master_points_come_to_mixtures.Goals as goal

pub returns : goal.returns
returns c = comes_to
