use Rattle.cip_rational.specs.Rational.{is_ratio}
use Rattle.cip_rational.proofs.Rational.Lowest.{denominator-pos, IsGcd-lowest_terms, numerator_lowest, denominator_lowest}
use Rattle.cip_rational.proofs.lowest_terms.Goals as goal

pub returns : goal.returns
returns c = record {
  value = is_ratio;
  positive = denominator-pos;
  coprime = IsGcd-lowest_terms;
  unique = λ z d h g. (numerator_lowest z d h g, denominator_lowest z d h g);
}
