-- Number texts and what they say, for the laws of examples.
use lib.Chars.{codes}
use Rattle.std.specs.Prelude.{◌≡◌, true, false, []}
use Rattle.cip_rational.specs.Numeral.{Exact, NotANumber, Huge, TooFine, numeral_of}
use Rattle.cip_rational.specs.FractionText.{fraction_of}

-- texts with a value
pub record NumbersAreRight : Type 0 where
  pub with_exponent : numeral_of (codes "1.50e1") ≡ Exact false 15 1
  pub no_whole : numeral_of (codes ".5") ≡ Exact false 5 10
  pub no_decimals : numeral_of (codes "5.") ≡ Exact false 5 1
  pub zeros_in_front : numeral_of (codes "000000000000000000000000000000000000000000042") ≡ Exact false 42 1
  pub zeros_behind : numeral_of (codes "-42.50000000000000000000000000000000000000000") ≡ Exact true 425 10
  pub largest_power : numeral_of (codes "1e38") ≡ Exact false 100000000000000000000000000000000000000 1
  pub largest_number :
      numeral_of (codes "170141183460469231731687303715884105727")
      ≡ Exact false 170141183460469231731687303715884105727 1
  pub finest : numeral_of (codes "1E-38") ≡ Exact false 1 100000000000000000000000000000000000000
  pub zeros_for_exponent : numeral_of (codes "-100000000000000000000000000000000000000000e-40") ≡ Exact true 10 1
  pub zero_ : numeral_of (codes "0e999") ≡ Exact false 0 1
  pub zero_down : numeral_of (codes "0.000e-999") ≡ Exact false 0 1
  pub negative_zero : numeral_of (codes "-0") ≡ Exact false 0 1
  pub plus : numeral_of (codes "+7e+1") ≡ Exact false 70 1

-- texts without a value
pub record NumbersHaveFaults : Type 0 where
  pub too_large : numeral_of (codes "170141183460469231731687303715884105728") ≡ Huge false
  pub too_small : numeral_of (codes "-1e39") ≡ Huge true
  pub large_decimal : numeral_of (codes "170141183460469231731687303715884105727.5") ≡ Huge false
  pub too_fine : numeral_of (codes "1e-39") ≡ TooFine
  pub long_decimal : numeral_of (codes "17014118346046923173168730371588410572.85") ≡ TooFine
  pub empty : numeral_of [] ≡ NotANumber
  pub point_alone : numeral_of (codes ".") ≡ NotANumber
  pub sign_alone : numeral_of (codes "-") ≡ NotANumber
  pub two_signs : numeral_of (codes "+-1") ≡ NotANumber
  pub two_points : numeral_of (codes "1.2.3") ≡ NotANumber
  pub exponent_alone : numeral_of (codes "e5") ≡ NotANumber
  pub no_exponent : numeral_of (codes "1e") ≡ NotANumber
  pub broken_exponent : numeral_of (codes "1e5.") ≡ NotANumber
  pub word : numeral_of (codes "inf") ≡ NotANumber

-- fractions
pub record FractionsAreRight : Type 0 where
  pub third : fraction_of (codes "-1/3") ≡ Exact true 1 3
  pub not_reduced : fraction_of (codes "+6/4") ≡ Exact false 6 4
  pub zero_ : fraction_of (codes "-0/5") ≡ Exact false 0 1
  pub number : fraction_of (codes "-2.5") ≡ Exact true 25 10
  pub too_large : fraction_of (codes "-170141183460469231731687303715884105728/3") ≡ Huge true
  pub large_below : fraction_of (codes "1/170141183460469231731687303715884105728") ≡ Huge false
  pub by_zero : fraction_of (codes "1/0") ≡ NotANumber
  pub nothing_below : fraction_of (codes "1/") ≡ NotANumber
  pub point : fraction_of (codes "1.5/2") ≡ NotANumber
  pub sign_below : fraction_of (codes "1/-2") ≡ NotANumber
  pub two_slashes : fraction_of (codes "1/2/3") ≡ NotANumber
