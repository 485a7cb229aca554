use Rattle.std.proofs.Common.{refl}
use Rattle.cip_rational.specs.Numeral.{numeral_of}
use Rattle.cip_rational.specs.FractionText.{fraction_of}
use Rattle.cip_rational.proofs.number_laws.fractions_are_right.Goals as goal

pub returns : goal.returns
unfolding numeral_of fraction_of
returns c = record {
  third = refl;
  not_reduced = refl;
  zero_ = refl;
  number = refl;
  too_large = refl;
  large_below = refl;
  by_zero = refl;
  nothing_below = refl;
  point = refl;
  sign_below = refl;
  two_slashes = refl;
}
