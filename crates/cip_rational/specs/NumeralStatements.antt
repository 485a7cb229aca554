-- The laws of number texts, each as one statement: functions of `src/lib.rt` have them as contracts.
use Rattle.std.specs.Prelude.{◌≡◌, ℕ, ◌<◌, ◌≤◌, Bool, true, false, List, Some}
use Rattle.cip_rational.specs.Rational.{ℚ}
use Rattle.cip_rational.specs.Range.{largest, fits_range}
use Rattle.cip_rational.specs.Numeral.{Exact, value_of, numeral_of}
use Rattle.cip_rational.specs.FractionText.{fraction_of}

-- both numbers of a fraction are in the range of an `i128`, the lower one is not 0, and 0 has no sign
pub record IsInRange (negative : Bool) (size below : ℕ) : Type 0 where
  pub small_size : size ≤ largest
  pub positive : 0 < below
  pub small_below : below ≤ largest
  pub zero_unsigned : size ≡ 0 → negative ≡ false

-- numbers that are told are in that range
pub record NumbersFit : Type 0 where
  pub number : (text : List ℕ) (negative : Bool) (size below : ℕ)
      → numeral_of text ≡ Exact negative size below → IsInRange negative size below
  pub fraction : (text : List ℕ) (negative : Bool) (size below : ℕ)
      → fraction_of text ≡ Exact negative size below → IsInRange negative size below

-- and so are their values
pub record ValuesAreExact : Type 0 where
  pub number : (text : List ℕ) (value : ℚ) → value_of (numeral_of text) ≡ Some value → fits_range value ≡ true
  pub fraction : (text : List ℕ) (value : ℚ) → value_of (fraction_of text) ≡ Some value → fits_range value ≡ true
