use Rattle.cip_rational.proofs.WithZero.{sum_overflows-zero, zero-sum_overflows, product_overflows-zero, zero-product_overflows}
use Rattle.cip_rational.proofs.zero_never_overflows.Goals as goal

pub returns : goal.returns
returns c = record {
  sum_right = sum_overflows-zero;
  sum_left = zero-sum_overflows;
  product_right = product_overflows-zero;
  product_left = zero-product_overflows;
}
