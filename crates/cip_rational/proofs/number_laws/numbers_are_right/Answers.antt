use Rattle.std.proofs.Common.{refl}
use Rattle.cip_rational.specs.Numeral.{numeral_of}
use Rattle.cip_rational.proofs.number_laws.numbers_are_right.Goals as goal

pub returns : goal.returns
unfolding numeral_of
returns c = record {
  with_exponent = refl;
  no_whole = refl;
  no_decimals = refl;
  zeros_in_front = refl;
  zeros_behind = refl;
  largest_power = refl;
  largest_number = refl;
  finest = refl;
  zeros_for_exponent = refl;
  zero_ = refl;
  zero_down = refl;
  negative_zero = refl;
  plus = refl;
}
