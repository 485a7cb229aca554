-- How many entries a combination may have, and which coefficients let a row be rounded.
use Rattle.std.specs.Prelude.{ℕ, Bool, not, ◌&&◌, ◌||◌}
use Rattle.cip_rational.specs.Rational.{ℚ, zeroℚ, is_whole}
use Rattle.cip_frac.specs.Order.{same_rational}

-- the most entries of a combination
abbrev pub most_multiples : ℕ
most_multiples = 4096

-- a coefficient that isn't 0 doesn't let a row be rounded: it isn't whole, or its column isn't
abbrev pub stops_rounding : Bool → ℚ → Bool
stops_rounding whole d = not (same_rational d zeroℚ) && (not whole || not (is_whole d))
