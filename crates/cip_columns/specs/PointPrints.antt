-- A number that is made of a block and a point's values. Equal points of one block have the same, so that only those
-- with the same have to be compared.
use Rattle.std.specs.Prelude.{ℕ, ◌+◌, ◌*◌, ◌%◌, List, [], ◌∷◌}
use Rattle.cip_rational.specs.Rational.{ℚ, numerator, denominator}
use Rattle.cip_rational.specs.Range.{magnitude}

-- a prime below 2 ^ 32
abbrev pub print_modulus : ℕ
print_modulus = 4294967291

-- another number mixed into one
abbrev pub mixed : ℕ → ℕ → ℕ
mixed from more = (from * 1000003 + more) % print_modulus

-- a rational mixed into a number
abbrev pub with_number : ℕ → ℚ → ℕ
with_number from q = mixed (mixed from (magnitude (numerator q) % print_modulus)) (denominator q % print_modulus)

-- rationals mixed into a number, one after another
abbrev pub with_numbers : ℕ → List ℚ → ℕ
with_numbers from [] = from
with_numbers from (q ∷ qs) = with_numbers (with_number from q) qs

-- how many groups of points there are
abbrev pub group_count : ℕ
group_count = 65536

-- the group of a point
abbrev pub group_of : ℕ → List ℚ → ℕ
group_of block values = with_numbers (mixed 0 block) values % group_count
