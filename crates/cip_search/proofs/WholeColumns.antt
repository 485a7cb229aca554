-- Where a box has a whole assignment, each whole column has a whole value.
use borrow.Author.Differences.{at_most_in}
use Rattle.std.proofs.Common.{◌≡◌, ℕ, zero, suc, pos, Bool, true, false, List, [], ◌∷◌, Option, None, Some, slice_get, sym, arith, true≢false, zero-mul, mul-zero}
use Rattle.std.proofs.lemmas.Option.{none-some, same_Some}
use Rattle.cip_rational.specs.Rational.{ℚ, floor, ceil}
use Rattle.cip_rational.proofs.Rational.Rounding.{floor_le, le_ceil}
use Rattle.cip_problem.specs.Program.{Sides}
use Rattle.cip_problem.specs.Box.{sides_at}
use Rattle.cip_problem.specs.Wholes.{wholes_between, times, assignments, AtMost, HasWhole}
use Rattle.cip_problem.proofs.Wholes.Counts.{wholes_count, between_rounded, IsPositive}

-- a product that isn't 0 has no factor 0
first_positive : (m n : Option ℕ) → IsPositive (times m n) → IsPositive m
first_positive None n h = tt
first_positive (Some zero) None h = absurd (omega (arith, h))
first_positive (Some zero) (Some n) h = absurd (omega (arith, h, zero-mul n))
first_positive (Some (suc m)) n h = omega arith

second_positive : (m n : Option ℕ) → IsPositive (times m n) → IsPositive n
second_positive m None h = tt
second_positive m (Some (suc n)) h = omega arith
second_positive None (Some zero) h = absurd (omega (arith, h))
second_positive (Some m) (Some zero) h = absurd (omega (arith, h, mul-zero m))

-- what is at least another is positive where that is
pub more_positive : (m n : Option ℕ) → AtMost m n → IsPositive m → IsPositive n
more_positive m None h p = tt
more_positive None (Some n) h p = absurd h
more_positive (Some m) (Some n) h p = omega (arith, h, p)

whole_between : (low high : Option ℚ) → IsPositive (wholes_between low high) → HasWhole (record { low = low; high = high })
whole_between None None p = record { number = pos 0; between = record { above = tt; below = tt } }
whole_between None (Some high) p = record { number = floor high; between = record { above = tt; below = floor_le high } }
whole_between (Some low) None p = record { number = ceil low; between = record { above = le_ceil low; below = tt } }
whole_between (Some low) (Some high) p =
    let c = wholes_count (ceil low) (floor high) in
    record {
      number = ceil low;
      between = between_rounded low high (ceil low) (at_most_in _ _ (omega arith)) (at_most_in _ _ (omega (arith, p, c)));
    }

pub positive_at : (integral : List Bool) (box : List Sides) (column : ℕ) → IsPositive (assignments integral box) → slice_get integral column ≡ Some true → HasWhole (sides_at box column)
positive_at [] box column p e = absurd (none-some true e)
positive_at (w ∷ ws) [] column p e = record { number = pos 0; between = record { above = tt; below = tt } }
positive_at (true ∷ ws) (s ∷ ss) zero p e = whole_between s.low s.high (first_positive _ _ p)
positive_at (false ∷ ws) (s ∷ ss) zero p e = absurd (true≢false (sym (same_Some false true e)))
positive_at (true ∷ ws) (s ∷ ss) (suc column) p e = positive_at ws ss column (second_positive _ _ p) e
positive_at (false ∷ ws) (s ∷ ss) (suc column) p e = positive_at ws ss column p e
