use Rattle.std.proofs.Common.{refl}
use Rattle.cip_rational.specs.Numeral.{numeral_of}
use Rattle.cip_rational.proofs.number_laws.numbers_have_faults.Goals as goal

pub returns : goal.returns
unfolding numeral_of
returns c = record {
  too_large = refl;
  too_small = refl;
  large_decimal = refl;
  too_fine = refl;
  long_decimal = refl;
  empty = refl;
  point_alone = refl;
  sign_alone = refl;
  two_signs = refl;
  two_points = refl;
  exponent_alone = refl;
  no_exponent = refl;
  broken_exponent = refl;
  word = refl;
}
