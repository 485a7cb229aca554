use Rattle.cip_rational.specs.Numeral as numerals
use Rattle.cip_mps_lines.proofs.bound_numbers.BoundNumber.none.Goals as goal

pub returns : goal.returns
unfolding numerals.numeral_of
returns c = c.of.ensures
