-- The text of a fraction: `p`, or `p/q` in lowest terms where q is not 1, with a `-` before a negative p.
--     natural_text n, integer_text z, fraction_text x
--     fraction_text_injective      the text determines the number
--     fraction_text_plain          each byte is a digit, `-` or `/`
--     natural_text_decimal, integer_text_decimal       std's words for what `{n}` writes are these, below 10 ^ 64
use Rattle.std.specs.Prelude.{ℕ, zero, suc, ◌+◌, List, [], ◌∷◌, ◌++◌, map, ℤ, pos, negsuc}
use Rattle.std.specs.Int.Digits.{digits_of}
use Rattle.cip_rational.specs.Rational.{ℚ, numerator, denominator}

-- the decimal digits, with no 0 in front, and `0` for 0
abbrev pub natural_text : ℕ → List ℕ
natural_text zero = 48 ∷ []
natural_text (suc n) = map (λ d. 48 + d) (digits_of 10 (suc n))

-- the digits, with a `-` before them where the number is below 0
abbrev pub integer_text : ℤ → List ℕ
integer_text (pos n) = natural_text n
integer_text (negsuc n) = 45 ∷ natural_text (suc n)

-- `/` and the denominator, and nothing where it is 1
abbrev pub denominator_text : ℕ → List ℕ
denominator_text zero = []
denominator_text (suc zero) = []
denominator_text (suc (suc n)) = 47 ∷ natural_text (suc (suc n))

-- `p`, or `p/q` where the denominator q in lowest terms is not 1
unfoldable pub fraction_text : ℚ → List ℕ
fraction_text x = integer_text (numerator x) ++ denominator_text (denominator x)
