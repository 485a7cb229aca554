-- The definitions tried on rows that were worked out by hand.
use Rattle.std.proofs.Common.{List, Some, cond, ◌≡◌, ◌≢◌, pos, negsuc, true, false, [], ◌∷◌, refl, sym, ap, ◌∙◌, subst, arith, true≢false, lit<}
use Rattle.cip_rational.specs.Gcd.{gcd}
use Rattle.cip_rational.specs.Rational.{ℚ, ◌+ℚ◌, ◌*ℚ◌, negate, whole, integer, ratio, zeroℚ, IsWhole, ceil, denominator, is_zero}
use Rattle.cip_rational.specs.Sums.{dot}
use Rattle.cip_rational.proofs.Rational.Ring.{zero_is, same_whole}
use Rattle.cip_rational.proofs.Rational.Whole.{IsWhole-whole, IsWhole-zero, is_whole-denominator, floor-ratio, ceil-ratio}
use Rattle.cip_rational.proofs.Rational.Lowest.{denominator-ratio}
use Rattle.cip_rational.proofs.Rational.Order.{test_of_le, le_test_of_lt, ≤ℚ_refl}
use Rattle.cip_rational.proofs.Rational.Ring.{integer_is}
use Rattle.cip_rational.proofs.Linear.{linear_le, linear_lt, linear_same}
use Rattle.cip_problem.specs.Activity.{activity}
use Rattle.std.proofs.lemmas.Option.{same_Some}
use Rattle.cip_problem.specs.Aggregate.{Inequality, aggregate}
use Rattle.cip_problem.specs.LinearExamples.{half, half_row}
use Rattle.cip_problem.proofs.LinearTried.{half_row_is}
use Rattle.cip_problem.specs.Cuts.{CanRoundAt, CanRound, rounded, rounded_sides, terms_from}
use Rattle.cip_problem.specs.Splits.{IsWholeForm, IsSplitRow}
use Rattle.cip_problem.specs.CutExamples.{first_whole, column_form, split_at_zero, left_row, right_row, split_row}

at_whole_column : (d : ℚ) → IsWhole d → CanRoundAt true d
at_whole_column d w = record { coefficient_whole = w; column_whole = λ _. refl }

pub can_round : CanRound (true ∷ true ∷ []) (aggregate 2 half_row).coefficients
can_round =
    subst (λ (row : Inequality). CanRound (true ∷ true ∷ []) row.coefficients) (sym half_row_is)
    (at_whole_column (whole 0 1) (IsWhole-whole 0 1), (at_whole_column (whole 0 1) (IsWhole-whole 0 1), tt))

ceil_three_halves : ceil (ratio (negsuc 2) 2) ≡ negsuc 0
ceil_three_halves = ceil-ratio (negsuc 2) 2 (lit< tt)

pub rounded_row : rounded (aggregate 2 half_row) ≡ record { coefficients = whole 0 1 ∷ whole 0 1 ∷ []; least = integer (negsuc 0) }
rounded_row = ap rounded half_row_is ∙ rw ceil_three_halves refl

one_is_not_zero : whole 0 1 ≢ zeroℚ
one_is_not_zero e = absurd (omega (arith, same_whole 0 1 0 0 (e ∙ zero_is)))

pub continuous : ¬ CanRound (true ∷ false ∷ []) (aggregate 2 half_row).coefficients
continuous h =
    let k = subst (λ (row : Inequality). CanRound (true ∷ false ∷ []) row.coefficients) half_row_is h in
    true≢false (sym (k.1.0.column_whole one_is_not_zero))

half_denominator : denominator half ≡ 2
unfolding gcd
half_denominator = denominator-ratio (pos 1) 2 (lit< tt)

pub fractional : ¬ CanRound (true ∷ []) (half ∷ [])
fractional h =
    let e = is_whole-denominator half h.0.coefficient_whole in
    absurd (omega (arith, e, half_denominator))

pub continuous_zero : CanRound (true ∷ false ∷ []) (whole 0 1 ∷ zeroℚ ∷ [])
continuous_zero =
    (at_whole_column (whole 0 1) (IsWhole-whole 0 1), (record { coefficient_whole = IsWhole-zero; column_whole = λ n. absurd (n refl) }, tt))

pub inward : rounded_sides (record { low = Some half; high = Some half }) ≡ record { low = Some (integer (pos 1)); high = Some (integer (pos 0)) }
inward = rw (ceil-ratio (pos 1) 2 (lit< tt), floor-ratio (pos 1) 2 (lit< tt)) refl

zero_test : is_zero zeroℚ ≡ true
unfolding is_zero
zero_test = rw (test_of_le (≤ℚ_refl zeroℚ)) refl

minus_one_test : is_zero (whole 0 1) ≡ false
unfolding is_zero
minus_one_test = rw (test_of_le {a = whole 0 1} {b = zeroℚ} (linear_le [] (λ s w. omega arith)), le_test_of_lt {a = zeroℚ} {b = whole 0 1} (linear_lt [] (λ s w. omega arith))) refl

two_test : is_zero (whole 2 0) ≡ false
unfolding is_zero
two_test = rw (le_test_of_lt {a = whole 2 0} {b = zeroℚ} (linear_lt [] (λ s w. omega arith))) refl

pub terms : terms_from 0 (whole 0 1 ∷ zeroℚ ∷ whole 2 0 ∷ []) ≡ record { column = 0; coefficient = whole 0 1 } ∷ record { column = 2; coefficient = whole 2 0 } ∷ []
terms = rw (minus_one_test, zero_test, two_test) refl

-- ---- a split row

left_form : (point : List ℚ) → dot split_row.coefficients point ≡ dot left_row.coefficients point +ℚ negate (whole 1 0) *ℚ activity (column_form 0) point
left_form [] = linear_same [] (λ s w. let m = s.products tt in omega arith)
left_form (v ∷ []) = linear_same (v ∷ []) (λ s w. let m = s.products tt in omega arith)
left_form (v ∷ y ∷ rest) = linear_same (v ∷ y ∷ []) (λ s w. let m = s.products tt in omega arith)

right_form : (point : List ℚ) → dot split_row.coefficients point ≡ dot right_row.coefficients point +ℚ whole 1 0 *ℚ activity (column_form 0) point
right_form [] = linear_same [] (λ s w. let m = s.products tt in omega arith)
right_form (v ∷ []) = linear_same (v ∷ []) (λ s w. let m = s.products tt in omega arith)
right_form (v ∷ y ∷ rest) = linear_same (v ∷ y ∷ []) (λ s w. let m = s.products tt in omega arith)

pub split : IsSplitRow first_whole (split_at_zero (whole 1 0)) left_row right_row split_row
split = record {
  whole = (record { coefficient = IsWhole-whole 1 0; column = refl }, tt);
  left_sign = linear_le [] (λ s w. omega arith);
  right_sign = linear_le [] (λ s w. omega arith);
  left_least = whole 1 0;
  right_least = whole 1 0;
  left_sum = record { form = left_form; least = ap (λ t. t) (rw (integer_is (pos 0)) (linear_same [] (λ s w. let m = s.products tt in omega arith))) };
  right_sum = record { form = right_form; least = rw (integer_is (pos 1)) (linear_same [] (λ s w. let m = s.products tt in omega arith)) };
  least = sym (ap (λ t. cond t (whole 1 0) (whole 1 0)) (test_of_le (≤ℚ_refl (whole 1 0))));
}

pub without_a_side : (row : Inequality) → ¬ IsSplitRow first_whole (split_at_zero zeroℚ) left_row right_row row
without_a_side row s =
    let one : List ℚ = whole 1 0 ∷ [] in
    let e : dot left_row.coefficients one +ℚ negate zeroℚ *ℚ activity (column_form 0) one ≡ dot right_row.coefficients one +ℚ whole 1 0 *ℚ activity (column_form 0) one = sym (s.left_sum.form one) ∙ s.right_sum.form one in
    let two : whole 2 0 ≡ dot left_row.coefficients one +ℚ negate zeroℚ *ℚ activity (column_form 0) one = linear_same [] (λ s w. let m = s.products tt in omega arith) in
    let single : dot right_row.coefficients one +ℚ whole 1 0 *ℚ activity (column_form 0) one ≡ whole 1 0 = linear_same [] (λ s w. let m = s.products tt in omega arith) in
    absurd (omega (arith, same_whole 2 0 1 0 (two ∙ e ∙ single)))

pub fractional_form : ¬ IsWholeForm first_whole (column_form 1)
fractional_form h = true≢false (sym (same_Some false true h.0.column))
