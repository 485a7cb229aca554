-- Rows of one term.
use Rattle.std.proofs.Common.{◌≡◌, ℕ, ◌<◌, true, false, Bool, List, [], ◌∷◌, length, Option, None, Some, IfSome, slice_get, refl, sym, ap, ◌∙◌, subst, lit<}
use Rattle.std.proofs.lemmas.Bool.{and_from}
use Rattle.cip_rational.specs.Rational.{ℚ, ◌*ℚ◌, zeroℚ, ◌≤ℚ◌, IsWhole}
use Rattle.cip_rational.proofs.Rational.Order.{≤ℚ_refl, ≤ℚ_trans, test_of_le}
use Rattle.cip_rational.proofs.Rational.Ring.{+ℚ-zero}
use Rattle.cip_rational.proofs.Rational.Extremes.{maximum_ge, minimum_le}
use Rattle.cip_rational.proofs.Rational.Rounding.{floor_le, le_ceil}
use Rattle.cip_problem.specs.Program.{Term, Sides, Row, Program, no_row}
use Rattle.cip_problem.specs.Activity.{activity, value_at, StandsBelow}
use Rattle.cip_problem.specs.Box.{Between, sides_at, low_inside, high_inside, sides_inside}
use Rattle.cip_problem.specs.Choices.{greater, lesser, met, choice_at, is_open}
use Rattle.cip_problem.specs.Points.{IsSatisfied, IsFeasible}
use Rattle.cip_problem.proofs.Points.AtPlaces.{in_box_at, satisfied_at, whole_at}
use Rattle.cip_problem.proofs.Choices.Meeting.{between_both, between_met}
use Rattle.cip_problem.specs.Cuts.{rounded_low, rounded_high, rounded_sides}
use Rattle.cip_problem.proofs.Rounding.{sides_rounded}
use Rattle.cip_presolve.specs.MetSides.{is_past}
use Rattle.cip_presolve.specs.NarrowedPrograms.{IsExactStep, IsInfeasible, with_row, with_sides}
use Rattle.cip_presolve.specs.RowSteps.{divided_sides}
use Rattle.cip_search.proofs.RowSteps.{single_taken, divided, multiplied}
use Rattle.cip_search.proofs.Pairing.{exact_self}
use Rattle.cip_presolve.specs.SingleRows.{HasOneTerm, inward_if, single_sides}
use Rattle.cip_presolve.specs.RuleEnds.{IsSingled}
use Rattle.cip_presolve.proofs.Enclosing.{past_below}
use Rattle.cip_presolve.proofs.Merged.{count_same}

-- ---- met sides

greater_inside : (low other : Option ℚ) → low_inside (greater low other) low ≡ true
greater_inside None other = refl
greater_inside (Some low) None = test_of_le (≤ℚ_refl low)
greater_inside (Some low) (Some other) = test_of_le (maximum_ge low other).0

lesser_inside : (high other : Option ℚ) → high_inside (lesser high other) high ≡ true
lesser_inside None other = refl
lesser_inside (Some high) None = test_of_le (≤ℚ_refl high)
lesser_inside (Some high) (Some other) = test_of_le (minimum_le high other).0

pub met_inside : (sides other : Sides) → sides_inside (met sides other) sides ≡ true
met_inside sides other = and_from _ _ (greater_inside sides.low other.low) (lesser_inside sides.high other.high)

-- ---- rounding inward

rounded_wider : (sides : Sides) (v : ℚ) → Between (rounded_sides sides).low (rounded_sides sides).high v → Between sides.low sides.high v
rounded_wider sides v h = record { above = lower sides.low h.above; below = upper sides.high h.below }
  where
    lower : (low : Option ℚ) → IfSome (rounded_low low) (λ side. side ≤ℚ v) → IfSome low (λ side. side ≤ℚ v)
    lower None h = tt
    lower (Some low) h = ≤ℚ_trans (le_ceil low) h

    upper : (high : Option ℚ) → IfSome (rounded_high high) (λ side. v ≤ℚ side) → IfSome high (λ side. v ≤ℚ side)
    upper None h = tt
    upper (Some high) h = ≤ℚ_trans h (floor_le high)

pub inward_onward : (whole : Bool) (sides : Sides) (v : ℚ) → (whole ≡ true → IsWhole v) → Between sides.low sides.high v → Between (inward_if whole sides).low (inward_if whole sides).high v
inward_onward true sides v f h = sides_rounded sides v (f refl) h
inward_onward false sides v f h = h

inward_back : (whole : Bool) (sides : Sides) (v : ℚ) → Between (inward_if whole sides).low (inward_if whole sides).high v → Between sides.low sides.high v
inward_back true sides v h = rounded_wider sides v h
inward_back false sides v h = h

-- ---- the row

one_activity : (term : Term) (x : List ℚ) → activity (term ∷ []) x ≡ term.coefficient *ℚ value_at x term.column
one_activity term x = +ℚ-zero _

module _ (program : Program) (number : ℕ) (row : Row) (term : Term) (whole : Bool) (sides : Sides) (found : slice_get program.rows number ≡ Some row) (one : HasOneTerm row term) (nonzero : ¬ (term.coefficient ≡ zeroℚ)) (inside : term.column < length program.bounds) (is_whole : slice_get program.integral term.column ≡ Some whole) (are : sides ≡ met (sides_at program.bounds term.column) (single_sides whole term.coefficient row.low row.high)) where
  product_between : (x : List ℚ) → IsSatisfied row x → Between row.low row.high (term.coefficient *ℚ value_at x term.column)
  product_between x h = subst (λ q. Between row.low row.high q) (ap (λ (ts : List Term). activity ts x) one ∙ one_activity term x) h

  whole_if : (y : List ℚ) → IsFeasible program y → whole ≡ true → IsWhole (value_at y term.column)
  whole_if y h e = whole_at program.integral y term.column h.whole (is_whole ∙ ap Some e)

  met_between : (y : List ℚ) → IsFeasible program y → Between sides.low sides.high (value_at y term.column)
  met_between y h =
      subst (λ (s : Sides). Between s.low s.high (value_at y term.column)) (sym are)
      (between_met (sides_at program.bounds term.column) (single_sides whole term.coefficient row.low row.high) (value_at y term.column)
      (in_box_at program.bounds y term.column h.within)
      (inward_onward whole (divided_sides term.coefficient row.low row.high) (value_at y term.column) (whole_if y h)
      (divided term.coefficient (value_at y term.column) row.low row.high nonzero (product_between y (satisfied_at program.rows y number row h.rows found)))))

  row_back : (x : List ℚ) → Between sides.low sides.high (value_at x term.column) → IsSatisfied row x
  row_back x h =
      let both = between_both (sides_at program.bounds term.column) (single_sides whole term.coefficient row.low row.high) (value_at x term.column) (subst (λ (s : Sides). Between s.low s.high (value_at x term.column)) are h) in
      subst (λ q. Between row.low row.high q) (sym (ap (λ (ts : List Term). activity ts x) one ∙ one_activity term x))
      (multiplied term.coefficient (value_at x term.column) row.low row.high nonzero
      (inward_back whole (divided_sides term.coefficient row.low row.high) (value_at x term.column) both.1))

  single_step : IsExactStep program (with_row (with_sides program term.column sides) number no_row)
  single_step =
      single_taken program number row term.column sides found inside
      (subst (λ s. sides_inside s (sides_at program.bounds term.column) ≡ true) (sym are) (met_inside (sides_at program.bounds term.column) (single_sides whole term.coefficient row.low row.high)))
      met_between row_back

  no_value : is_past sides.low sides.high ≡ true → IsInfeasible program
  no_value e y h = let b = met_between y h in past_below sides.low sides.high (value_at y term.column) e b.above b.below

  pub singled : is_open (choice_at program.choices term.column) ≡ false → IsSingled program number term.column sides
  singled plain = record { inside = inside; plain = plain; step = single_step; none = no_value }

pub one_stands : (n : ℕ) (terms : List Term) (term : Term) → StandsBelow n terms → terms ≡ term ∷ [] → term.column < n
one_stands n terms term h e = let k : StandsBelow n (term ∷ []) = subst (λ (ts : List Term). StandsBelow n ts) e h in k 0 term (lit< tt)

pub taken_by : (program changed : Program) (number column : ℕ) (sides : Sides) → IsSingled program number column sides → changed ≡ with_row (with_sides program column sides) number no_row → IsExactStep program changed
taken_by program changed number column sides s e = subst (λ p. IsExactStep program p) (sym e) s.step

-- rows of one term, and what is taken of them
pub ruleset single_rows = (singled, one_stands)

pub ruleset taking = (exact_self, taken_by, count_same)

pub ruleset cleaning = (exact_self, count_same)
