-- Sums and products of numbers of choices, and how many whole numbers lie between two sides.
use borrow.Author.Differences.{up, down, sum_is_lem, neg_is, at_most_in, le_out, same_in, same_out, lt-true, lt-false}
use Rattle.std.proofs.Common.{◌≡◌, ◌≢◌, ℕ, zero, suc, ◌+◌, ◌-◌, ◌*◌, ◌≤◌, ℤ, pos, negsuc, ◌+ℤ◌, ◌-ℤ◌, ◌≤ℤ◌, neg_ℤ, Bool, true, false, int_lt, Option, None, Some, refl, sym, ap, ◌∙◌, subst, arith, true≢false, add-mul, mul-add, mul-le-mul_right, mul-le-mul_left, mul-le-mul, zero-mul, mul-zero, List, [], ◌∷◌}
use Rattle.std.specs.Prelude.{⊤}
use Rattle.cip_rational.specs.Rational.{ℚ, integer, numerator, floor, ceil, IsWhole}
use Rattle.cip_rational.proofs.Rational.Order.{≤ℚ_trans}
use Rattle.cip_rational.proofs.Rational.Whole.{whole_is}
use Rattle.cip_rational.proofs.Rational.Rounding.{floor_le, floor_greatest, le_ceil, ceil_least, integer_le, floor-integer, ceil-integer}
use Rattle.cip_problem.specs.Program.{Sides}
use Rattle.cip_problem.specs.Box.{Between, two_wholes_between}
use Rattle.cip_problem.specs.Wholes.{count, wholes_between, times, assignments, plus, AtMost, HasWhole, HasTwoWholes, AllHaveWholes}

-- ---- numbers of choices

pub none_times : (n : Option ℕ) → times (Some 0) n ≡ Some 0
none_times None = refl
none_times (Some n) = ap Some (zero-mul n)

times_none : (m : Option ℕ) → times m (Some 0) ≡ Some 0
times_none None = refl
times_none (Some m) = ap Some (mul-zero m)

both_zero : (a b : Option ℕ) → AtMost (plus a b) (Some 0) → (a ≡ Some 0) × (b ≡ Some 0)
both_zero None b h = absurd h
both_zero (Some a) None h = absurd h
both_zero (Some a) (Some b) h = (ap Some (omega (arith, h)), ap Some (omega (arith, h)))

-- with as many choices more on the right
pub times_more : (a b c r : Option ℕ) → AtMost (plus a b) c → AtMost (plus (times a r) (times b r)) (times c r)
times_more a b None None h = tt
times_more a b None (Some zero) h = rw (times_none a, times_none b) (omega arith)
times_more a b None (Some (suc n)) h = tt
times_more a b (Some zero) r h =
    let e = both_zero a b h in
    rw (e.0, e.1, none_times r) (omega arith)
times_more a b (Some (suc n)) None h = tt
times_more None b (Some (suc n)) (Some r) h = absurd h
times_more (Some a) None (Some (suc n)) (Some r) h = absurd h
times_more (Some a) (Some b) (Some (suc n)) (Some r) h = subst (λ t. t ≤ suc n * r) (add-mul a b r) (mul-le-mul_right r h)

-- with as many choices more on the left
pub more_times : (m a b c : Option ℕ) → AtMost (plus a b) c → AtMost (plus (times m a) (times m b)) (times m c)
more_times None a b None h = tt
more_times None a b (Some zero) h = let e = both_zero a b h in rw (e.0, e.1) (omega arith)
more_times None a b (Some (suc n)) h = tt
more_times (Some zero) a b c h = rw (none_times a, none_times b, none_times c) (omega arith)
more_times (Some (suc m)) a b None h = tt
more_times (Some (suc m)) None b (Some n) h = absurd h
more_times (Some (suc m)) (Some a) None (Some n) h = absurd h
more_times (Some (suc m)) (Some a) (Some b) (Some n) h = subst (λ t. t ≤ suc m * n) (mul-add (suc m) a b) (mul-le-mul_left (suc m) h)

-- ---- whole numbers between sides

pub count_is : (z : ℤ) → count z ≡ up z - down z
count_is (pos n) = omega arith
count_is (negsuc n) = omega arith

-- how many whole numbers lie between y and z
pub wholes_count : (y z : ℤ) → count ((z +ℤ pos 1) -ℤ y) ≡ (up z + 1 + down y) - (down z + up y)
wholes_count y z =
    count_is ((z +ℤ pos 1) -ℤ y) ∙ omega (arith, sum_is_lem (z +ℤ pos 1) (neg_ℤ y), neg_is y, sum_is_lem z (pos 1))

-- a whole number between the sides is at least the ceiling of the low one, and at most the floor of the high one
pub above_ceil : (low : ℚ) (high : Option ℚ) (z : ℤ) → Between (Some low) high (integer z) → ceil low ≤ℤ z
above_ceil low high z h = ceil_least low z h.above

pub below_floor : (low : Option ℚ) (high : ℚ) (z : ℤ) → Between low (Some high) (integer z) → z ≤ℤ floor high
below_floor low high z h = floor_greatest high z h.below

-- a whole number from the ceiling up to the floor lies between the sides
pub between_rounded : (low high : ℚ) (z : ℤ) → ceil low ≤ℤ z → z ≤ℤ floor high → Between (Some low) (Some high) (integer z)
between_rounded low high z h k = record {
  above = ≤ℚ_trans (le_ceil low) (integer_le (ceil low) z h);
  below = ≤ℚ_trans (integer_le z (floor high) k) (floor_le high);
}

-- the sides with a whole number as the high one, and with the next one as the low one, have no more whole numbers together
pub split_wholes : (low high : Option ℚ) (at : ℤ) → HasWhole (record { low = low; high = Some (integer at) }) → HasWhole (record { low = Some (integer (at +ℤ pos 1)); high = high }) → AtMost (plus (wholes_between low (Some (integer at))) (wholes_between (Some (integer (at +ℤ pos 1))) high)) (wholes_between low high)
split_wholes None high at h k = tt
split_wholes (Some low) None at h k = tt
split_wholes (Some low) (Some high) at h k =
    let c : ceil low ≤ℤ at = ceil_least low at (≤ℚ_trans h.between.above h.between.below) in
    let f : (at +ℤ pos 1) ≤ℤ floor high = floor_greatest high (at +ℤ pos 1) (≤ℚ_trans k.between.above k.between.below) in
    rw (floor-integer at, ceil-integer (at +ℤ pos 1), wholes_count (ceil low) at, wholes_count (at +ℤ pos 1) (floor high), wholes_count (ceil low) (floor high))
    (omega (arith, sum_is_lem at (pos 1), le_out _ _ c, le_out _ _ f))

-- ---- two whole values

-- the next whole number is another one
next_apart : (z : ℤ) → z ≢ (z +ℤ pos 1)
next_apart z e = absurd (omega (arith, sum_is_lem z (pos 1), same_out _ _ e))

-- so is the one before
last_apart : (z : ℤ) → z ≢ (z -ℤ pos 1)
last_apart z e = absurd (omega (arith, sum_is_lem z (neg_ℤ (pos 1)), neg_is (pos 1), same_out _ _ e))

ends_apart : (y z : ℤ) → int_lt y z ≡ true → y ≢ z
ends_apart y z h e = absurd (omega (arith, lt-true y z h, same_out y z e))

pub two_wholes_of_test : (low high : Option ℚ) → two_wholes_between low high ≡ true → HasTwoWholes low high
two_wholes_of_test None None h = record {
  first = pos 0;
  second = pos 1;
  apart = next_apart (pos 0);
  first_between = record { above = tt; below = tt };
  second_between = record { above = tt; below = tt };
}
two_wholes_of_test None (Some high) h = record {
  first = floor high;
  second = floor high -ℤ pos 1;
  apart = last_apart (floor high);
  first_between = record { above = tt; below = floor_le high };
  second_between = record {
    above = tt;
    below = ≤ℚ_trans (integer_le _ (floor high) (at_most_in _ _ (omega (arith, sum_is_lem (floor high) (neg_ℤ (pos 1)), neg_is (pos 1))))) (floor_le high);
  };
}
two_wholes_of_test (Some low) None h = record {
  first = ceil low;
  second = ceil low +ℤ pos 1;
  apart = next_apart (ceil low);
  first_between = record { above = le_ceil low; below = tt };
  second_between = record {
    above = ≤ℚ_trans (le_ceil low) (integer_le (ceil low) _ (at_most_in _ _ (omega (arith, sum_is_lem (ceil low) (pos 1)))));
    below = tt;
  };
}
two_wholes_of_test (Some low) (Some high) h =
    let l : ceil low ≤ℤ floor high = at_most_in _ _ (omega (arith, lt-true (ceil low) (floor high) h)) in
    record {
      first = ceil low;
      second = floor high;
      apart = ends_apart (ceil low) (floor high) h;
      first_between = between_rounded low high (ceil low) (at_most_in _ _ (omega arith)) l;
      second_between = between_rounded low high (floor high) l (at_most_in _ _ (omega arith));
    }

-- where the test fails, two whole values between the sides are equal
pub one_whole_of_test : (low high : Option ℚ) (y z : ℤ) → two_wholes_between low high ≡ false → Between low high (integer y) → Between low high (integer z) → y ≡ z
one_whole_of_test None high y z h k l = absurd (true≢false h)
one_whole_of_test (Some low) None y z h k l = absurd (true≢false h)
one_whole_of_test (Some low) (Some high) y z h k l =
    same_in y z (omega (arith, lt-false (ceil low) (floor high) h, le_out _ _ (ceil_least low y k.above), le_out _ _ (ceil_least low z l.above), le_out _ _ (floor_greatest high y k.below), le_out _ _ (floor_greatest high z l.below)))

pub same_whole_of_test : (low high : Option ℚ) (v w : ℚ) → two_wholes_between low high ≡ false → IsWhole v → IsWhole w → Between low high v → Between low high w → v ≡ w
same_whole_of_test low high v w h p q k l =
    whole_is v p
    ∙ ap integer (one_whole_of_test low high (numerator v) (numerator w) h (subst (Between low high) (whole_is v p) k) (subst (Between low high) (whole_is w q) l))
    ∙ sym (whole_is w q)

-- ---- a box in which each whole column has a whole value

-- there is at least one choice
abbrev pub IsPositive : Option ℕ → Type 0
IsPositive None = ⊤
IsPositive (Some n) = 1 ≤ n

pub times_positive : (m n : Option ℕ) → IsPositive m → IsPositive n → IsPositive (times m n)
times_positive (Some m) (Some n) h k = omega (arith, mul-le-mul h k)
times_positive (Some zero) None h k = absurd (omega (arith, h))
times_positive (Some (suc m)) None h k = tt
times_positive None (Some zero) h k = absurd (omega (arith, k))
times_positive None (Some (suc n)) h k = tt
times_positive None None h k = tt

wholes_positive : (low high : Option ℚ) (z : ℤ) → Between low high (integer z) → IsPositive (wholes_between low high)
wholes_positive None high z h = tt
wholes_positive (Some low) None z h = tt
wholes_positive (Some low) (Some high) z h =
    rw (wholes_count (ceil low) (floor high)) (omega (arith, le_out _ _ (above_ceil low (Some high) z h), le_out _ _ (below_floor (Some low) high z h)))

-- so the box has a whole assignment
pub assignments_positive : (integral : List Bool) (box : List Sides) → AllHaveWholes integral box → IsPositive (assignments integral box)
assignments_positive [] box h = omega arith
assignments_positive (w ∷ ws) [] h = absurd h
assignments_positive (false ∷ ws) (s ∷ ss) h = assignments_positive ws ss h.1
assignments_positive (true ∷ ws) (s ∷ ss) h =
    times_positive _ _ (wholes_positive s.low s.high (h.0 refl).number (h.0 refl).between) (assignments_positive ws ss h.1)
