-- Where no variable is outside and none lets the cost fall, the point is optimal and the cost's entries certify it.
use Rattle.std.proofs.Common.{◌≡◌, ℕ, ◌<◌, length, Some, sym, ap, ◌∙◌, subst}
use Rattle.cip_rational.specs.Rational.{ℚ}
use Rattle.cip_bland.specs.Box.{sides_at}
use Rattle.cip_bland.specs.LinearProgram.{LinearProgram, IsProper, IsOptimal}
use Rattle.cip_bland.specs.Aggregate.{aggregate, bound_of}
use Rattle.cip_bland.specs.Multipliers.{ArePartsOf, paired, IsUsed, SumsTo}
use Rattle.cip_problem.proofs.Certificates.{combination_parts, combination_bound, certified_optimal}
use Rattle.cip_bland.specs.Tables.{form}
use Rattle.cip_bland.specs.Dictionary.{Dictionary, size, cost_entry, value}
use Rattle.cip_bland.specs.Rule.{is_crossed, is_outside, improves}
use Rattle.cip_bland.specs.EndAnswers.{point_of, optimal_certificate, certificate_of}
use Rattle.cip_bland.specs.Statements.{IsStateOf, IsCertificate, ShowsOptimum}
use Rattle.cip_bland.specs.declared.steps.Heading.TheVariants.{Down}
use Rattle.cip_bland.proofs.Searches.{NoneOf}
use Rattle.cip_bland.proofs.StateFacts.{stuck_row, sizes, is_point, first_cost, values_solve}
use Rattle.cip_bland.proofs.PointsOf.{cost_is}
use Rattle.cip_bland.proofs.Multiples.{on_variables, paired_is, sums_to_costs, UsedAll, uses_sides}
use Rattle.cip_bland.proofs.Named.{parts_are, rows_signed, lows_signed, highs_signed}

-- multipliers that use sides give a certificate
pub is_certificate : (program : LinearProgram) (y u : ℕ → ℚ) → UsedAll program y u → IsCertificate program (certificate_of program y)
is_certificate program y u used = record {
  parts = subst (ArePartsOf program) (sym (parts_are program y u used)) (combination_parts program (on_variables program y) (on_variables program u) (uses_sides program y u used));
  rows = rows_signed program y;
  lows = lows_signed program y;
  highs = highs_signed program y;
}

module _ (program : LinearProgram) (d : Dictionary) (proper : IsProper program) (st : IsStateOf program d) (uncrossed : NoneOf (size d) (is_crossed d)) (inside : NoneOf (size d) (is_outside d)) (none : NoneOf (size d) (improves d)) where
  used : UsedAll program (cost_entry d) (value d)
  used v l =
      subst (λ sides. IsUsed (cost_entry d v) (sides_at sides v) (value d v)) (sym st.same.same_sides)
      (stuck_row d st.consistent (cost_entry d) Down st.consistent.costs_free none v (subst (λ n. v < n) (sizes program d proper st) l))

  sums : SumsTo program (on_variables program (cost_entry d)) program.costs
  sums =
      sums_to_costs program proper (cost_entry d)
      (λ x s. ap (λ n. form n (cost_entry d) x) (sizes program d proper st) ∙ sym (st.same.same_cost x s))

  pairs : paired (on_variables program (cost_entry d)) (on_variables program (value d)) ≡ d.cost
  pairs = paired_is program (cost_entry d) (value d) ∙ ap (λ n. form n (cost_entry d) (value d)) (sizes program d proper st) ∙ sym st.consistent.cost_value

  optimal : IsOptimal program (point_of program d) d.cost
  optimal =
      subst (IsOptimal program (point_of program d)) pairs
      (certified_optimal program (on_variables program (cost_entry d)) (on_variables program (value d)) (point_of program d) proper (uses_sides program (cost_entry d) (value d) used) sums (is_point program d proper st uncrossed inside) (cost_is program proper (value d) (values_solve program d proper st) ∙ first_cost program d proper st ∙ sym pairs))

  pub shows_optimum : ShowsOptimum program (point_of program d) (optimal_certificate program d) d.cost
  shows_optimum = record {
    optimal = optimal;
    certificate = is_certificate program (cost_entry d) (value d) used;
    bound =
        ap (λ ps. bound_of (aggregate (length program.bounds) ps) program.costs program.bounds) (parts_are program (cost_entry d) (value d) used)
        ∙ combination_bound program (on_variables program (cost_entry d)) (on_variables program (value d)) program.costs proper (uses_sides program (cost_entry d) (value d) used) proper.costs sums
        ∙ ap Some pairs;
  }
