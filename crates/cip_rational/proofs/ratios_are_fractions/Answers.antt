use Rattle.cip_rational.proofs.Rational.Ratio.{ratio-add, ratio-mul, le-ratio, ratio-le, same_ratio, ratio_same}
use Rattle.cip_rational.proofs.ratios_are_fractions.Goals as goal

pub returns : goal.returns
returns c = record {
  sum = ratio-add;
  product = ratio-mul;
  order = λ y z b d p q. (le-ratio y z b d p q, ratio-le y z b d p q);
  equality = λ y z b d p q. (same_ratio y z b d p q, ratio_same y z b d p q);
}
