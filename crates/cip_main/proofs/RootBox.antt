-- The value that a search finds for the box bound is the box bound; it finds none only where there is none, or where a
-- sum leaves the range.
use Rattle.std.proofs.Common.{◌≡◌, ◌⊎◌, inl, inr, Bool, true, false, cond, List, [], ◌∷◌, Option, None, Some, Ok, IfSome, refl, sym, ◌∙◌, subst, true≢false}
use Rattle.cip_rational.specs.Rational.{ℚ, ◌+ℚ◌, ◌*ℚ◌, zeroℚ, lt_test}
use Rattle.cip_rational.specs.Range.{fits_range, sum_overflows, product_overflows}
use Rattle.cip_rational.proofs.Range.InRange.{fits_product}
use Rattle.cip_rational.proofs.Rational.Ring.{+ℚ-zero}
use Rattle.cip_rational.proofs.Rational.Order.{≤ℚ_antisymm, ≤ℚ_of_eq, le_of_lt_test, lt_test_of_le}
use Rattle.cip_frac.specs.Order.{same_rational, equal_from_same, same_from_equal}
use Rattle.cip_frac.specs.Outcomes.{product_added}
use Rattle.cip_problem.specs.Program.{Sides, Program}
use Rattle.cip_problem.specs.BoxBound.{product_at, box_bound}
use Rattle.cip_lin.specs.declared.outcomes.Least.{Least}
use Rattle.cip_lin.specs.declared.outcomes.Least.TheVariants.{Value, NoBound, Wide as TooWide}
use Rattle.cip_lin.specs.RowSums.{least_of, least_at, least_then}
use Rattle.cip_model.specs.Least.{least_cost_from}
use Rattle.cip_model.specs.Meaning.{BoundHolds}
use Rattle.cip_model.proofs.Meaning.BoxBound.{least_cost_from_holds}
use Rattle.cip_node_rules.specs.RootBounds.{least_value}
use Rattle.cip_solve.specs.Beginning.{root_value}
use Rattle.cip_main.specs.RootBox.{LeavesWith, LeavesRange, IsBoxBound}

too_wide : (product : ℚ) (fits : Bool) → fits_range product ≡ fits → (fits_range product ≡ true → ⊥) → fits_range product ≡ false
too_wide product true e n = absurd (n e)
too_wide product false e n = e

-- a product that overflows is out of the range
out_of_range : (a b : ℚ) → product_overflows a b ≡ true → fits_range (a *ℚ b) ≡ false
out_of_range a b e = too_wide (a *ℚ b) (fits_range (a *ℚ b)) refl (λ f. true≢false (sym e ∙ fits_product a b f))

-- a product added to a sum leaves the range, or the outcome is the sum
data Adds (sum a b : ℚ) : Type 0 where
  leaves : fits_range (a *ℚ b) ≡ false → Adds sum a b
  sum_leaves : sum_overflows sum (a *ℚ b) ≡ true → Adds sum a b
  comes_to : product_added sum a b ≡ Ok (sum +ℚ a *ℚ b) → Adds sum a b

adds_by : (sum a b : ℚ) (product over : Bool) → product_overflows a b ≡ product → sum_overflows sum (a *ℚ b) ≡ over → Adds sum a b
adds_by sum a b true over e f = leaves (out_of_range a b e)
adds_by sum a b false true e f = sum_leaves f
adds_by sum a b false false e f = comes_to (rw e (rw f refl))

adds : (sum a b : ℚ) → Adds sum a b
adds sum a b = adds_by sum a b (product_overflows a b) (sum_overflows sum (a *ℚ b)) refl refl

module _ (next : ℚ → Least) (Rest : ℚ → Type 0) (h : (more : ℚ) → next more ≡ TooWide → Rest more) where
  at_value : (sum cost side : ℚ) → Adds sum cost side → least_then (least_of (product_added sum cost side)) next ≡ TooWide → LeavesWith sum (Some (cost *ℚ side)) Rest
  at_value sum cost side (leaves f) e = inl f
  at_value sum cost side (sum_leaves f) e = inr (inl f)
  at_value sum cost side (comes_to f) e = inr (inr (h (sum +ℚ cost *ℚ side) (subst (λ r. least_then (least_of r) next ≡ TooWide) f e)))

  at_side : (sum cost : ℚ) (side : Option ℚ) → least_then (least_at sum cost side) next ≡ TooWide → LeavesWith sum (product_at cost side) Rest
  at_side sum cost None e = absurd (cc)
  at_side sum cost (Some side) e = at_value sum cost side (adds sum cost side) e

  column : (sum cost : ℚ) (sides : Sides) (same negative positive : Bool) → same_rational cost zeroℚ ≡ same → lt_test cost zeroℚ ≡ negative → lt_test zeroℚ cost ≡ positive → least_then (cond same (Value sum) (least_at sum cost (cond negative sides.high sides.low))) next ≡ TooWide → LeavesWith sum (cond negative (product_at cost sides.high) (cond positive (product_at cost sides.low) (Some zeroℚ))) Rest
  column sum cost sides true true positive s n p e = absurd (true≢false (sym n ∙ lt_test_of_le (≤ℚ_of_eq (sym (equal_from_same cost zeroℚ s)))))
  column sum cost sides true false true s n p e = absurd (true≢false (sym p ∙ lt_test_of_le (≤ℚ_of_eq (equal_from_same cost zeroℚ s))))
  column sum cost sides true false false s n p e = inr (inr (subst Rest (sym (+ℚ-zero sum)) (h sum e)))
  column sum cost sides false true positive s n p e = at_side sum cost sides.high e
  column sum cost sides false false true s n p e = at_side sum cost sides.low e
  column sum cost sides false false false s n p e =
      absurd (true≢false (sym (same_from_equal cost zeroℚ (≤ℚ_antisymm (le_of_lt_test p) (le_of_lt_test n))) ∙ s))

leaves_range : (sum : ℚ) (costs : List ℚ) (box : List Sides) → least_cost_from sum costs box ≡ TooWide → LeavesRange sum costs box
leaves_range sum [] box e = absurd (cc)
leaves_range sum (cost ∷ costs) [] e = absurd (cc)
leaves_range sum (cost ∷ costs) (sides ∷ others) e =
    column (λ more. least_cost_from more costs others) (λ more. LeavesRange more costs others) (λ more f. leaves_range more costs others f)
    sum cost sides (same_rational cost zeroℚ) (lt_test cost zeroℚ) (lt_test zeroℚ cost) refl refl refl e

value_holds : (bound : Option ℚ) (least : Least) → BoundHolds bound least → IfSome (least_value least) (λ value. bound ≡ Some value)
value_holds bound (Value value) h = h
value_holds bound NoBound h = tt
value_holds bound TooWide h = tt

none_holds : {Leaves : Type 0} (bound : Option ℚ) (least : Least) → BoundHolds bound least → (least ≡ TooWide → Leaves) → least_value least ≡ None → (bound ≡ None) ⊎ Leaves
none_holds bound (Value value) h l e = absurd (cc)
none_holds bound NoBound h l e = inl h
none_holds bound TooWide h l e = inr (l refl)

pub is_box_bound : (program : Program) → IsBoxBound program (root_value program)
is_box_bound program =
    let least : Least = least_cost_from program.constant program.costs program.bounds in
    let holds : BoundHolds (box_bound program program.bounds) least = least_cost_from_holds program.constant program.costs program.bounds in
    record {
      value = value_holds (box_bound program program.bounds) least holds;
      none = none_holds (box_bound program program.bounds) least holds (leaves_range program.constant program.costs program.bounds);
    }
