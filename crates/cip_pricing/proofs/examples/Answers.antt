use Rattle.std.proofs.Common.{refl, lit<}
use Rattle.cip_pricing.proofs.Tried as tried
use Rattle.cip_pricing.proofs.examples.Goals as goal

pub returns : goal.returns
returns c = record {
  decomposed = tried.decomposed;
  master = refl;
  second = refl;
  point = tried.first_point 1 (lit< tt);
  broken = tried.broken;
  mixture = tried.mixture;
  least = tried.least;
  no_side = tried.no_side;
}
