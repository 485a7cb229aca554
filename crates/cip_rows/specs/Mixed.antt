-- A number that is made of a row's terms and its low side. Equal rows have the same, so that only those with the same
-- have to be compared.
use Rattle.std.specs.Prelude.{ℕ, ◌+◌, ◌*◌, ◌%◌, List, [], ◌∷◌, Option, None, Some}
use Rattle.cip_rational.specs.Rational.{ℚ, numerator, denominator}
use Rattle.cip_rational.specs.Range.{magnitude}
use Rattle.cip_problem.specs.Program.{Term, Row}

-- a prime below 2 ^ 32
abbrev pub modulus : ℕ
modulus = 4294967291

-- another number mixed into one
abbrev pub mixed : ℕ → ℕ → ℕ
mixed from more = (from * 1000003 + more) % modulus

-- a rational mixed into a number
abbrev pub with_number : ℕ → ℚ → ℕ
with_number from q = mixed (mixed from (magnitude (numerator q) % modulus)) (denominator q % modulus)

-- a term mixed into a number
abbrev pub with_term : ℕ → Term → ℕ
with_term from term = with_number (mixed from term.column) term.coefficient

-- terms mixed into a number, one after another
abbrev pub with_terms : ℕ → List Term → ℕ
with_terms from [] = from
with_terms from (t ∷ ts) = with_terms (with_term from t) ts

-- a side mixed into a number, if it is there
abbrev pub with_side : ℕ → Option ℚ → ℕ
with_side from None = from
with_side from (Some side) = with_number from side

-- the number of a row
abbrev pub fingerprint : Row → ℕ
fingerprint row = with_side (with_terms 0 row.terms) row.low
