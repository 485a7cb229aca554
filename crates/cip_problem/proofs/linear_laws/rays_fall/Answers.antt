use Rattle.cip_problem.proofs.Rays.{ray_points, ray_cost, ray_unbounded}
use Rattle.cip_problem.proofs.linear_laws.rays_fall.Goals as goal

pub returns : goal.returns
returns c = record { points = ray_points; cost = ray_cost; unbounded = ray_unbounded }
