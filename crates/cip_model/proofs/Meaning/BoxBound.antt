-- The least cost in a box, summed up by rising column, is the box bound.
use Rattle.std.proofs.Common.{◌≡◌, Bool, true, false, cond, List, [], ◌∷◌, Option, None, Some, Result, Ok, Err, IfOk, refl, sym, ap, ◌∙◌, subst, true≢false}
use Rattle.cip_rational.specs.Rational.{ℚ, ◌+ℚ◌, ◌*ℚ◌, zeroℚ, lt_test}
use Rattle.cip_rational.proofs.Rational.Ring.{+ℚ_assoc, +ℚ-zero}
use Rattle.cip_rational.proofs.Rational.Order.{≤ℚ_antisymm, ≤ℚ_of_eq, le_of_lt_test, lt_test_of_le}
use Rattle.cip_frac.specs.declared.operations.Wide.{Wide}
use Rattle.cip_frac.specs.Order.{same_rational, equal_from_same, same_from_equal}
use Rattle.cip_problem.specs.Program.{Sides, Program}
use Rattle.cip_problem.specs.BoxBound as problem
use Rattle.cip_problem.specs.BoxBound.{sum_if_both, product_at, least_costs}
use Rattle.cip_lin.specs.declared.outcomes.Least.{Least}
use Rattle.cip_lin.specs.declared.outcomes.Least.TheVariants.{Value, NoBound, Wide as TooWide}
use Rattle.cip_frac.specs.Outcomes.{product_added}
use Rattle.cip_frac.proofs.Outcomes.{product_added-value}
use Rattle.cip_lin.specs.RowSums.{least_of, least_at, least_then}
use Rattle.cip_model.specs.Least.{column_added, least_cost_from}
use Rattle.cip_model.specs.Meaning.{BoundHolds}

outcome_holds : (r : Result ℚ Wide) (q : ℚ) → IfOk r (λ v. v ≡ q) → BoundHolds (Some q) (least_of r)
outcome_holds (Ok v) q e = ap Some (sym e)
outcome_holds (Err wide) q e = tt

-- a sum with the product at a side added
at_side : (sum cost : ℚ) (side : Option ℚ) → BoundHolds (sum_if_both (Some sum) (product_at cost side)) (least_at sum cost side)
at_side sum cost None = refl
at_side sum cost (Some side) = outcome_holds (product_added sum cost side) (sum +ℚ cost *ℚ side) (product_added-value sum cost side)

-- a sum with the least cost of a column added
column_cases : (sum cost : ℚ) (sides : Sides) (same negative positive : Bool) → same_rational cost zeroℚ ≡ same → lt_test cost zeroℚ ≡ negative → lt_test zeroℚ cost ≡ positive → BoundHolds (sum_if_both (Some sum) (cond negative (product_at cost sides.high) (cond positive (product_at cost sides.low) (Some zeroℚ)))) (cond same (Value sum) (least_at sum cost (cond negative sides.high sides.low)))
column_cases sum cost sides true true positive e n p = absurd (true≢false (sym n ∙ lt_test_of_le (≤ℚ_of_eq (sym (equal_from_same cost zeroℚ e)))))
column_cases sum cost sides true false true e n p = absurd (true≢false (sym p ∙ lt_test_of_le (≤ℚ_of_eq (equal_from_same cost zeroℚ e))))
column_cases sum cost sides true false false e n p = ap Some (+ℚ-zero sum)
column_cases sum cost sides false true positive e n p = at_side sum cost sides.high
column_cases sum cost sides false false true e n p = at_side sum cost sides.low
column_cases sum cost sides false false false e n p =
    absurd (true≢false (sym (same_from_equal cost zeroℚ (≤ℚ_antisymm (le_of_lt_test p) (le_of_lt_test n))) ∙ e))

column_holds : (sum cost : ℚ) (sides : Sides) → BoundHolds (sum_if_both (Some sum) (problem.least_cost cost sides)) (column_added sum cost sides)
column_holds sum cost sides = column_cases sum cost sides (same_rational cost zeroℚ) (lt_test cost zeroℚ) (lt_test zeroℚ cost) refl refl refl

sum_assoc : (a b c : Option ℚ) → sum_if_both (sum_if_both a b) c ≡ sum_if_both a (sum_if_both b c)
sum_assoc None b c = refl
sum_assoc (Some a) None c = refl
sum_assoc (Some a) (Some b) None = refl
sum_assoc (Some a) (Some b) (Some c) = ap Some (+ℚ_assoc a b c)

then_holds : (first rest : Option ℚ) (least : Least) (next : ℚ → Least) → BoundHolds first least → ((more : ℚ) → BoundHolds (sum_if_both (Some more) rest) (next more)) → BoundHolds (sum_if_both first rest) (least_then least next)
then_holds first rest (Value more) next h f = rw h (f more)
then_holds first rest NoBound next h f = rw h refl
then_holds first rest TooWide next h f = tt

pub least_cost_from_holds : (sum : ℚ) (costs : List ℚ) (box : List Sides) → BoundHolds (sum_if_both (Some sum) (least_costs costs box)) (least_cost_from sum costs box)
least_cost_from_holds sum [] box = ap Some (+ℚ-zero sum)
least_cost_from_holds sum (c ∷ cs) [] = ap Some (+ℚ-zero sum)
least_cost_from_holds sum (c ∷ cs) (s ∷ ss) =
    subst (λ b. BoundHolds b (least_cost_from sum (c ∷ cs) (s ∷ ss))) (sum_assoc (Some sum) (problem.least_cost c s) (least_costs cs ss))
    (then_holds (sum_if_both (Some sum) (problem.least_cost c s)) (least_costs cs ss) (column_added sum c s) (λ more. least_cost_from more cs ss)
    (column_holds sum c s) (λ more. least_cost_from_holds more cs ss))

-- what the sum of a program's least costs answers
pub bound_is_right : (program : Program) (box : List Sides) (least : Least) → least ≡ least_cost_from program.constant program.costs box → BoundHolds (problem.box_bound program box) least
bound_is_right program box least e = rw e (least_cost_from_holds program.constant program.costs box)
