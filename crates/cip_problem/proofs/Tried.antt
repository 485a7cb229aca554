-- The definitions tried on a program.
use Rattle.std.proofs.Common.{◌≡◌, ◌≢◌, ℕ, zero, suc, ◌<◌, ◌≤◌, pos, [], ◌∷◌, None, Some, Contains, refl, sym, ap, ◌∙◌, subst, arith, lit<, lit≤}
use Rattle.std.proofs.lemmas.List.Elements.{All-from_recursion}
use Rattle.std.proofs.lemmas.Option.{none-some}
use Rattle.cip_rational.specs.Gcd.{gcd}
use Rattle.cip_rational.specs.Rational.{whole, ratio, zeroℚ, negate, floor, ceil, denominator, ◌*ℚ◌, ◌≤ℚ◌, ◌<ℚ◌}
use Rattle.cip_rational.proofs.Rational.Lowest.{denominator-ratio}
use Rattle.cip_rational.proofs.Rational.Ring.{zero_is, whole_negate}
use Rattle.cip_rational.proofs.Rational.Order.{test_of_lt}
use Rattle.cip_rational.proofs.Rational.Monotone.{whole_le, le_whole, whole_lt}
use Rattle.cip_rational.proofs.Rational.Whole.{IsWhole-whole, IsWhole-zero, is_whole-denominator, integer-pos}
use Rattle.cip_rational.proofs.Rational.Rounding.{floor-integer, ceil-integer}
use Rattle.cip_rational.proofs.Linear.{linear_le, linear_same}
use Rattle.cip_problem.specs.Activity.{activity, StandsBelow}
use Rattle.cip_problem.specs.Box.{Between}
use Rattle.cip_problem.specs.Points.{IsFeasible, cost_of, printed}
use Rattle.cip_problem.specs.BoxBound.{least_cost, box_bound}
use Rattle.cip_problem.specs.Wholes.{wholes_between, times, assignments, HasWhole}
use Rattle.cip_problem.specs.WellFormed.{IsWellFormed}
use Rattle.cip_problem.specs.Log.{high_half, root, CanSplit, IsLog, IsOpen}
use Rattle.cip_problem.specs.Examples.{row_at_most, up_to_ten, example, point_of, closed, split_and_closed, node_one}

-- ---- the program

three_terms : (x y z high : ℕ) → StandsBelow 3 (row_at_most x y z high).terms
three_terms x y z high = All-from_recursion (λ t. t.column < 3) (row_at_most x y z high).terms (lit< tt, (lit< tt, (lit< tt, tt)))

pub well_formed : IsWellFormed example
well_formed = record {
  column_names = refl;
  integral = refl;
  bounds = refl;
  row_names = refl;
  few_columns = lit≤ tt;
  few_rows = lit≤ tt;
  rows = All-from_recursion (λ row. StandsBelow 3 row.terms) example.rows (three_terms 2 3 1 5, (three_terms 4 1 2 11, (three_terms 3 4 2 8, tt)));
  choices = λ column. tt;
}

-- ---- points

small : (n : ℕ) → n ≤ 10 → Between (Some (whole 0 0)) (Some (whole 10 0)) (whole n 0)
small n h = record { above = whole_le 0 0 n 0 (omega arith); below = whole_le n 0 10 0 (omega (arith, h)) }

zero_between : Between (Some (whole 0 0)) (Some (whole 10 0)) zeroℚ
zero_between = subst (Between (Some (whole 0 0)) (Some (whole 10 0))) (sym zero_is) (small 0 (lit≤ tt))

pub feasible : IsFeasible example (point_of (whole 2 0) zeroℚ (whole 1 0))
feasible = record {
  within = (small 2 (lit≤ tt), (zero_between, (small 1 (lit≤ tt), tt)));
  whole = (λ _. IsWhole-whole 2 0, (λ _. IsWhole-zero, (λ _. IsWhole-whole 1 0, tt)));
  choices = λ column. tt;
  rows = (
    record { above = tt; below = linear_le [] (λ s w. omega arith) },
    (
      record { above = tt; below = linear_le [] (λ s w. omega arith) },
      (record { above = tt; below = linear_le [] (λ s w. omega arith) }, tt),
    ),
  );
}

pub cost : cost_of example (point_of (whole 2 0) zeroℚ (whole 1 0)) ≡ whole 0 13
cost = linear_same [] (λ s w. omega arith)

pub cost_printed : printed example (cost_of example (point_of (whole 2 0) zeroℚ (whole 1 0))) ≡ whole 13 0
cost_printed = ap negate cost ∙ whole_negate 0 13

pub row_activity : activity (row_at_most 2 3 1 5).terms (point_of (whole 2 0) zeroℚ (whole 2 0)) ≡ whole 6 0
row_activity = linear_same [] (λ s w. omega arith)

pub row_broken : ¬ IsFeasible example (point_of (whole 2 0) zeroℚ (whole 2 0))
row_broken h = absurd (omega (arith, le_whole 6 0 5 0 (subst (λ t. t ≤ℚ whole 5 0) row_activity h.rows.0.below)))

half_denominator : denominator (ratio (pos 1) 2) ≡ 2
unfolding gcd
half_denominator = denominator-ratio (pos 1) 2 (lit< tt)

pub not_whole : ¬ IsFeasible example (point_of (whole 2 0) zeroℚ (ratio (pos 1) 2))
not_whole h = let e = is_whole-denominator _ (h.whole.1.1.0 refl) in absurd (omega (arith, e, half_denominator))

pub below_bound : ¬ IsFeasible example (point_of (whole 0 1) zeroℚ zeroℚ)
below_bound h = absurd (omega (arith, le_whole 0 0 0 1 h.within.0.above))

-- ---- the box

cost_at_ten : (n : ℕ) → 0 < n → least_cost (whole 0 n) up_to_ten ≡ Some (whole 0 n *ℚ whole 10 0)
cost_at_ten n h = rw (test_of_lt (subst (λ t. whole 0 n <ℚ t) (sym zero_is) (whole_lt 0 n 0 0 (omega (arith, h))))) refl

pub least : box_bound example example.bounds ≡ Some (whole 0 120)
least = rw (cost_at_ten 5 (lit< tt), cost_at_ten 4 (lit< tt), cost_at_ten 3 (lit< tt)) (ap Some (linear_same [] (λ s w. omega arith)))

floor_ten : floor (whole 10 0) ≡ pos 10
floor_ten = ap floor (sym (integer-pos 10)) ∙ floor-integer (pos 10)

ceil_zero : ceil (whole 0 0) ≡ pos 0
ceil_zero = ap ceil (sym (integer-pos 0)) ∙ ceil-integer (pos 0)

eleven : wholes_between (Some (whole 0 0)) (Some (whole 10 0)) ≡ Some 11
eleven = rw (floor_ten, ceil_zero) refl

pub count_as_tried : assignments example.integral example.bounds ≡ Some 1331
count_as_tried = ap (λ w. times w (times w (times w (Some 1)))) eleven

-- ---- logs

pub not_in_nothing : (n : ℕ) → ¬ Contains [] n
not_in_nothing n h = absurd (omega (arith, h.1))

pub not_the_only : (m n : ℕ) → m ≢ n → ¬ Contains (m ∷ []) n
not_the_only m n e (zero, h, k) = e k
not_the_only m n e (suc j, h, k) = absurd (omega (arith, h))

pub root_closed : IsLog example (closed 0 ∷ [])
root_closed = (record { node = root example; given_before = refl; once = not_in_nothing 0; right = tt }, tt)

whole_zero : HasWhole up_to_ten
whole_zero = record { number = pos 0; between = subst (Between (Some (whole 0 0)) (Some (whole 10 0))) (sym (integer-pos 0)) (small 0 (lit≤ tt)) }

can_split : CanSplit example.integral (root example) 0 (pos 5)
can_split = record {
  kind = refl;
  low = (λ _. record { number = pos 0; between = record { above = linear_le [] (λ s w. omega arith); below = linear_le [] (λ s w. omega arith) } }, (λ _. whole_zero, (λ _. whole_zero, tt)));
  high = (λ _. record { number = pos 10; between = record { above = linear_le [] (λ s w. omega arith); below = linear_le [] (λ s w. omega arith) } }, (λ _. whole_zero, (λ _. whole_zero, tt)));
}

pub root_split : IsLog example split_and_closed
root_split = (
  record {
    node = root example;
    given_before = refl;
    once = not_in_nothing 0;
    right = (can_split, refl, refl, λ e. absurd (omega (arith, e)));
  },
  (
    record {
      node = record { number = 2; box = high_half example.bounds 0 (pos 5); choices = []; bound = None };
      given_before = refl;
      once = not_the_only 0 2 (λ e. absurd (omega (arith, e)));
      right = tt;
    },
    tt,
  ),
)

not_those : ¬ Contains {X = ℕ} (0 ∷ 2 ∷ []) 1
not_those (zero, h, k) = absurd (omega (arith, k))
not_those (suc zero, h, k) = absurd (omega (arith, k))
not_those (suc (suc j), h, k) = absurd (omega (arith, h))

pub half_open : IsOpen example split_and_closed node_one
half_open = record { given = refl; not_taken = not_those }

pub never_given : ¬ IsLog example (closed 7 ∷ [])
never_given h = none-some _ h.0.given_before

pub taken_twice : ¬ IsLog example (closed 0 ∷ closed 0 ∷ [])
taken_twice h = h.1.0.once (0, lit< tt, refl)
