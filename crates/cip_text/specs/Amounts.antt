-- Numbers that are kept up to 2^127-1, and those of decimal digits.
use Rattle.std.specs.Prelude.{ℕ, nat_le, Option, None, Some, if◌then◌else◌}
use Rattle.cip_rational.specs.Range.{largest}

-- a number, where it is at most 2^127-1
abbrev pub capped : ℕ → Option ℕ
capped n = if nat_le n largest then Some n else None
