-- The sides that the source of a form needs.
use Rattle.std.proofs.Common.{◌≡◌, ℕ, ◌<◌, Bool, true, List, [], ◌∷◌, length, Some, IfSome, slice_get, sym, ap, ◌∙◌, subst, arith}
use Rattle.cip_rational.specs.Rational.{ℚ, ◌+ℚ◌, ◌-ℚ◌, ◌*ℚ◌, zeroℚ, ◌≤ℚ◌, IsWhole}
use Rattle.cip_rational.proofs.Linear.{linear_same}
use Rattle.cip_problem.specs.Program.{Term, Sides, Row, Program}
use Rattle.cip_problem.specs.Activity.{value_at}
use Rattle.cip_problem.specs.Box.{Between, sides_at, sides_inside}
use Rattle.cip_problem.specs.Choices.{met}
use Rattle.cip_problem.specs.Points.{IsFeasible}
use Rattle.cip_problem.proofs.Points.AtPlaces.{in_box_at, whole_at}
use Rattle.cip_problem.proofs.Choices.Meeting.{between_met}
use Rattle.cip_presolve.specs.NarrowedPrograms.{with_sides}
use Rattle.cip_presolve.specs.Forms.{Form}
use Rattle.cip_presolve.specs.RowSteps.{side_less}
use Rattle.cip_search.proofs.Replacing.{sides_replaced}
use Rattle.cip_search.proofs.RowSteps.{above_less, below_less, divided}
use Rattle.cip_search.proofs.Pairing.{feasible_relaxed, exact_self}
use Rattle.cip_presolve.specs.SingleRows.{single_sides}
use Rattle.cip_presolve.proofs.Enclosing.{past_below}
use Rattle.cip_presolve.proofs.Singled.{met_inside, inward_onward}
use Rattle.cip_presolve.specs.Taken.{IsImplied}
use Rattle.cip_presolve.proofs.ImpliedSides.{columns_same, taken_by}
use Rattle.cip_presolve.specs.ColumnForms.{RowGives, IsSubstitute}
use Rattle.cip_presolve.proofs.FormsSubstituted.{value_given}

less_of : (c f v s : ℚ) → v ≡ c +ℚ f *ℚ s → v -ℚ c ≡ f *ℚ s
less_of c f v s e = linear_same (c ∷ v ∷ (f *ℚ s) ∷ []) (λ t w. omega (arith, t.same_out))

module _ (program : Program) (place column : ℕ) (form : Form) (row : Row) (term : Term) (whole : Bool) (sides : Sides) (there : place < length program.rows) (gives : RowGives program place column form) (s : IsSubstitute program column form) (nonzero : ¬ (form.factor ≡ zeroℚ)) (low : row.low ≡ side_less (sides_at program.bounds column).low form.constant) (high : row.high ≡ side_less (sides_at program.bounds column).high form.constant) (tc : term.column ≡ form.source) (tq : term.coefficient ≡ form.factor) (is_whole : slice_get program.integral form.source ≡ Some whole) (are : sides ≡ met (sides_at program.bounds form.source) (single_sides whole term.coefficient row.low row.high)) where
  product_between : (y : List ℚ) → IsFeasible program y → Between row.low row.high (term.coefficient *ℚ value_at y form.source)
  product_between y h =
      let b = in_box_at program.bounds y column h.within in
      let p : value_at y column -ℚ form.constant ≡ term.coefficient *ℚ value_at y form.source = less_of form.constant form.factor (value_at y column) (value_at y form.source) (value_given program place column form y there gives (feasible_relaxed program y h)) ∙ ap (λ t. t *ℚ value_at y form.source) (sym tq) in
      record {
        above = subst (λ o. IfSome o (λ side. side ≤ℚ term.coefficient *ℚ value_at y form.source)) (sym low) (subst (λ t. IfSome (side_less (sides_at program.bounds column).low form.constant) (λ side. side ≤ℚ t)) p (above_less (sides_at program.bounds column).low (value_at y column) form.constant b.above));
        below = subst (λ o. IfSome o (λ side. term.coefficient *ℚ value_at y form.source ≤ℚ side)) (sym high) (subst (λ t. IfSome (side_less (sides_at program.bounds column).high form.constant) (λ side. t ≤ℚ side)) p (below_less (sides_at program.bounds column).high (value_at y column) form.constant b.below));
      }

  whole_if : (y : List ℚ) → IsFeasible program y → whole ≡ true → IsWhole (value_at y form.source)
  whole_if y h e = whole_at program.integral y form.source h.whole (is_whole ∙ ap Some e)

  met_between : (y : List ℚ) → IsFeasible program y → Between sides.low sides.high (value_at y form.source)
  met_between y h =
      subst (λ (t : Sides). Between t.low t.high (value_at y form.source)) (sym are)
      (between_met (sides_at program.bounds form.source) (single_sides whole term.coefficient row.low row.high) (value_at y form.source)
      (in_box_at program.bounds y form.source h.within)
      (inward_onward whole _ (value_at y form.source) (whole_if y h)
      (divided term.coefficient (value_at y form.source) row.low row.high (λ e. nonzero (sym tq ∙ e)) (product_between y h))))

  pub source_implied : IsImplied program form.source sides
  source_implied = record {
    inside = s.source;
    plain = s.source_plain;
    step = sides_replaced program form.source sides (subst (λ t. sides_inside t (sides_at program.bounds form.source) ≡ true) (sym are) (met_inside (sides_at program.bounds form.source) (single_sides whole term.coefficient row.low row.high))) met_between;
    none = λ p y h. let b = met_between y h in past_below sides.low sides.high (value_at y form.source) p b.above b.below;
  }

pub ruleset finding = (source_implied)
