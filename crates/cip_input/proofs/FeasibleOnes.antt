-- The point whose values are all 1 satisfies each row that is drawn, and so is feasible.
use Rattle.std.proofs.Common.{◌≡◌, ℕ, zero, suc, ◌+◌, ◌≤◌, Bool, true, false, cond, List, [], ◌∷◌, map, pos, refl, sym, ap, ap₂, ◌∙◌, arith}
use Rattle.std.specs.Prelude.{filter, sum, nat_lt, replicate}
use Rattle.std.specs.List.{AllByRecursion, range_with_len}
use Rattle.std.proofs.lemmas.Bool.{ltb-false}
use Rattle.std.proofs.lemmas.List.{get_or-replicate}
use Rattle.std.proofs.lemmas.List.Sums.{sum_by-cons}
use Rattle.cip_rational.specs.Rational.{ℚ, ◌+ℚ◌, ◌*ℚ◌, zeroℚ, oneℚ}
use Rattle.cip_rational.proofs.Linear.{linear_le}
use Rattle.cip_rational.proofs.Rational.Ring.{*ℚ-one}
use Rattle.cip_rational.proofs.Rational.Order.{≤ℚ_of_eq}
use Rattle.cip_rational.proofs.Rational.Rounding.{integer-zero, integer-add}
use Rattle.cip_rational.proofs.Rational.Whole.{IsWhole-one}
use Rattle.cip_problem.specs.Activity.{activity, value_at}
use Rattle.cip_problem.specs.Box.{Between, IsInBox}
use Rattle.cip_problem.specs.Points.{IsSatisfied, AreWhole, IsFeasible}
use Rattle.cip_input.specs.Generated.{natural, coefficient_from, has_term, term_from, row_from, row_start, zero_to_three, generated}

-- the point of ones
abbrev pub ones : ℕ → List ℚ
ones columns = replicate columns oneℚ

-- ---- sides and whole columns

one_between : Between zero_to_three.low zero_to_three.high oneℚ
one_between = record {
  above = linear_le [] (λ s w. omega arith);
  below = linear_le [] (λ s w. omega arith);
}

in_box : (columns : ℕ) → IsInBox (replicate columns zero_to_three) (ones columns)
in_box zero = tt
in_box (suc n) = (one_between, in_box n)

are_whole : (columns : ℕ) → AreWhole (replicate columns true) (ones columns)
are_whole zero = tt
are_whole (suc n) = (λ e. IsWhole-one, are_whole n)

-- ---- rows

natural_add : (m n : ℕ) → natural m +ℚ natural n ≡ natural (m + n)
natural_add m n = sym (integer-add (pos m) (pos n))

-- one column more
one_more : (state a total : ℕ) (ks : List ℕ) (point : List ℚ) → value_at point a ≡ oneℚ
    → activity (map (term_from state) ks) point ≡ natural total
    → (b : Bool) → nat_lt 0 (coefficient_from state a) ≡ b
    → activity (map (term_from state) (cond b (a ∷ ks) ks)) point ≡ natural (coefficient_from state a + total)
one_more state a total ks point one ih true e =
    ap₂ ◌+ℚ◌ (ap (λ v. natural (coefficient_from state a) *ℚ v) one ∙ *ℚ-one (natural (coefficient_from state a))) ih
    ∙ natural_add (coefficient_from state a) total
one_more state a total ks point one ih false e =
    let none : coefficient_from state a ≤ 0 = ltb-false 0 (coefficient_from state a) e in
    let same : total ≡ coefficient_from state a + total = omega (arith, none) in
    ih ∙ ap natural same

-- the activity is the sum of the coefficients
activity_from_on : (columns state a n : ℕ) → a + n ≤ columns
    → activity (map (term_from state) (filter (has_term state) (range_with_len a n))) (ones columns)
    ≡ natural (sum (map (coefficient_from state) (range_with_len a n)))
activity_from_on columns state a zero h = sym integer-zero
activity_from_on columns state a (suc n) h =
    one_more state a (sum (map (coefficient_from state) (range_with_len (a + 1) n))) (filter (has_term state) (range_with_len (a + 1) n)) (ones columns)
    (get_or-replicate columns a oneℚ zeroℚ (omega arith)) (activity_from_on columns state (a + 1) n (omega arith))
    (nat_lt 0 (coefficient_from state a)) refl
    ∙ ap natural (sym (sum_by-cons (λ (k : ℕ). k) (coefficient_from state a) (map (coefficient_from state) (range_with_len (a + 1) n))))

row_satisfied : (columns state : ℕ) → IsSatisfied (row_from columns state) (ones columns)
row_satisfied columns state = record { above = tt; below = ≤ℚ_of_eq (activity_from_on columns state 0 columns (omega arith)) }

rows_satisfied : (columns : ℕ) (f : ℕ → ℕ) (a n : ℕ) → AllByRecursion (λ row. IsSatisfied row (ones columns)) (map (λ row. row_from columns (f row)) (range_with_len a n))
rows_satisfied columns f a zero = tt
rows_satisfied columns f a (suc n) = (row_satisfied columns (f a), rows_satisfied columns f (a + 1) n)

pub ones_are_feasible : (seed columns rows : ℕ) → IsFeasible (generated seed columns rows) (ones columns)
ones_are_feasible seed columns rows = record {
  within = in_box columns;
  whole = are_whole columns;
  choices = λ column. tt;
  rows = rows_satisfied columns (row_start seed columns) 0 rows;
}
