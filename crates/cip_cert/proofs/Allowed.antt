-- A side that is allowed is the value that was given.
use Rattle.std.proofs.Common.{◌≡◌, ℕ, Bool, true, false, List, Option, None, Some, Result, Ok, Err, IfOk, if◌then◌else◌, refl, sym, subst}
use Rattle.cip_rational.specs.Rational.{ℚ, le_test}
use Rattle.cip_problem.specs.Program.{Sides}
use Rattle.cip_problem.specs.Activity.{value_at}
use Rattle.cip_problem.specs.Aggregate.{Inequality}
use Rattle.cip_cert.specs.Checks.{chain, aggregate_of, rests_from, implied_low, implied_high, low_allowed, high_allowed, low_reduced, high_reduced}
use Rattle.cip_cert.specs.Lent.{Lent, Multiples}
use Rattle.cip_cert.specs.declared.faults.CutFault.{CutFault}
use Rattle.cip_cert.specs.declared.faults.CutFault.TheVariants.{NotImplied}

picked : (b : Bool) (value : ℚ) (fault : CutFault) → IfOk (if b then Ok value else Err fault) (λ answer. answer ≡ value)
picked true value fault = refl
picked false value fault = tt

chained : {A : Type 0} (value : ℚ) (r : Result A CutFault) (next : A → Result ℚ CutFault) → ((a : A) → IfOk (next a) (λ answer. answer ≡ value)) → IfOk (chain r next) (λ answer. answer ≡ value)
chained value (Ok a) next h = h a
chained value (Err fault) next h = tt

low_is : (value : ℚ) (side : Option ℚ) → IfOk (low_allowed value side) (λ answer. answer ≡ value)
low_is value None = tt
low_is value (Some side) = picked (le_test value side) value (NotImplied (Some side))

high_is : (value : ℚ) (side : Option ℚ) → IfOk (high_allowed value side) (λ answer. answer ≡ value)
high_is value None = tt
high_is value (Some side) = picked (le_test side value) value (NotImplied (Some side))

module _ (lent : Lent) (whole : Bool) (box : List Sides) (columns column : ℕ) (value : ℚ) (combo : Multiples) (r : Result ℚ CutFault) where
  pub low_answer : r ≡ low_reduced lent whole box columns column value combo → IfOk r (λ answer. answer ≡ value)
  low_answer e = subst (λ (answered : Result ℚ CutFault). IfOk answered (λ answer. answer ≡ value)) (sym e)
      (chained value (aggregate_of lent box columns combo)
      (λ (row : Inequality). chain (rests_from (Some column) 0 row.least row.coefficients box) (λ (bound : ℚ). chain (implied_low column whole (value_at row.coefficients column) bound) (low_allowed value)))
      (λ row. chained value (rests_from (Some column) 0 row.least row.coefficients box)
      (λ (bound : ℚ). chain (implied_low column whole (value_at row.coefficients column) bound) (low_allowed value))
      (λ bound. chained value (implied_low column whole (value_at row.coefficients column) bound) (low_allowed value) (low_is value))))

  pub high_answer : r ≡ high_reduced lent whole box columns column value combo → IfOk r (λ answer. answer ≡ value)
  high_answer e = subst (λ (answered : Result ℚ CutFault). IfOk answered (λ answer. answer ≡ value)) (sym e)
      (chained value (aggregate_of lent box columns combo)
      (λ (row : Inequality). chain (rests_from (Some column) 0 row.least row.coefficients box) (λ (bound : ℚ). chain (implied_high column whole (value_at row.coefficients column) bound) (high_allowed value)))
      (λ row. chained value (rests_from (Some column) 0 row.least row.coefficients box)
      (λ (bound : ℚ). chain (implied_high column whole (value_at row.coefficients column) bound) (high_allowed value))
      (λ bound. chained value (implied_high column whole (value_at row.coefficients column) bound) (high_allowed value) (high_is value))))
