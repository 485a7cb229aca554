use Rattle.cip_rational.proofs.Tried as tried
use Rattle.cip_rational.proofs.values.Goals as goal

pub returns : goal.returns
returns c = record {
  whole_sum = tried.whole_sum;
  whole_sum_fits = tried.whole_sum_fits;
  large_halves = tried.large_halves;
  denominators = tried.denominators;
  small_sum = tried.small_sum;
  cancelled = tried.cancelled;
  large_product = tried.large_product;
  floor_half = tried.floor_half;
  ceil_half = tried.ceil_half;
}
