use Rattle.cip_rational.proofs.Rational.Compare.{compare_total}
use Rattle.cip_rational.proofs.comparison_is_total.Goals as goal

pub returns : goal.returns
returns c = compare_total
