-- The verdict on a point holds, and every verdict but that a sum overflows settles whether the point is feasible.
use Rattle.std.proofs.Common.{◌≡◌, ◌⊎◌, inl, inr, ℕ, zero, suc, ◌+◌, ◌<◌, Bool, true, false, cond, not, ◌&&◌, List, [], ◌∷◌, Option, None, Some, Result, Ok, Err, length, slice_get, refl, sym, ap, ◌∙◌, subst, arith, true≢false}
use Rattle.std.specs.List.{AllByRecursion}
use Rattle.std.proofs.lemmas.Bool.{and_parts, and_from}
use Rattle.cip_rational.specs.Rational.{ℚ, zeroℚ, IsWhole, is_whole}
use Rattle.cip_rational.proofs.Rational.Whole.{IsWhole_of_test, test_of_IsWhole}
use Rattle.cip_frac.specs.declared.operations.Wide.{Wide as Overflow}
use Rattle.cip_problem.specs.Program.{Sides, Row, Choice, Program}
use Rattle.cip_problem.specs.Activity.{activity, value_at}
use Rattle.cip_problem.specs.Box.{Between, IsInBox, sides_at, is_between}
use Rattle.cip_problem.proofs.Box.SideTests.{between_of_test, test_of_between, not_between_of_test}
use Rattle.cip_problem.specs.Choices.{choice_at, Allows, KeepsChoices}
use Rattle.cip_problem.specs.Points.{IsSatisfied, AreWhole, IsFeasible, cost_of}
use Rattle.cip_problem.proofs.Points.AtPlaces.{IsInBox-long, in_box_at, whole_at, satisfied_at}
use Rattle.cip_problem.specs.WellFormed.{IsWellFormed, columns}
use Rattle.cip_problem.proofs.Choices.Decided.{zero_allowed}
use Rattle.cip_frac.specs.Outcomes.{dot_from}
use Rattle.cip_frac.proofs.Outcomes.{dot_from-value}
use Rattle.cip_lin.specs.ChoiceParts.{is_allowed}
use Rattle.cip_lin.proofs.AllowedValues.{allowed_says, allowed_from}
use Rattle.cip_lin.specs.RowSums.{activity_from}
use Rattle.cip_lin.proofs.RowSums.ActivityValue.{activity_from-zero}
use Rattle.cip_model.specs.declared.verdicts.Place.{Place}
use Rattle.cip_model.specs.declared.verdicts.Place.TheVariants.{Row as AtRow, Cost}
use Rattle.cip_model.specs.declared.verdicts.Verdict.{Verdict}
use Rattle.cip_model.specs.declared.verdicts.Verdict.TheVariants.{Feasible, BreaksBound, BreaksWhole, BreaksRow, Wide}
use Rattle.cip_model.specs.Verdicts.{is_kept, first_outside, first_not_whole, row_verdict, or_else, first_broken, cost_verdict, from_rows, from_wholes, from_bounds, verdict_of}
use Rattle.cip_model.specs.Meaning.{IsKept, IsOutside, IsFractional, IsBroken, RowOverflows, VerdictHolds}

-- ---- bounds and choices

pub kept_says : (sides : Sides) (choice : Choice) (value : ℚ) → is_kept sides choice value ≡ true → IsKept sides choice value
kept_says sides choice value e =
    let parts = and_parts (is_between sides.low sides.high value) (is_allowed choice value) e in
    record { between = between_of_test sides.low sides.high value parts.0; allowed = allowed_says choice value parts.1 }

pub not_kept_says : (sides : Sides) (choice : Choice) (value : ℚ) → is_kept sides choice value ≡ false → ¬ IsKept sides choice value
not_kept_says sides choice value e h =
    true≢false (sym (and_from (is_between sides.low sides.high value) (is_allowed choice value) (test_of_between sides.low sides.high value h.between) (allowed_from choice value h.allowed)) ∙ e)

-- a place, counted from `at`, whose value is outside its sides or isn't allowed
record OutsideFrom (at : ℕ) (box : List Sides) (choices : List Choice) (point : List ℚ) (column : ℕ) : Type 0 where
  pub place : ℕ
  pub is : at + place ≡ column
  pub is_place : place < length box
  pub outside : ¬ IsKept (sides_at box place) (choice_at choices column) (value_at point place)

-- the values from `at` on are allowed
abbrev AllowFrom : ℕ → List Choice → List ℚ → Type 0
AllowFrom at choices point = (place : ℕ) → Allows (choice_at choices (at + place)) (value_at point place)

-- where there is no first place outside, the point is in the box, and its values are allowed
abbrev FirstOutsideSays : ℕ → List Sides → List Choice → List ℚ → Option ℕ → Type 0
FirstOutsideSays at box choices point None = IsInBox box point × AllowFrom at choices point
FirstOutsideSays at box choices point (Some column) = OutsideFrom at box choices point column

allow_more : (at : ℕ) (choices : List Choice) (v : ℚ) (point : List ℚ) → Allows (choice_at choices at) v → AllowFrom (at + 1) choices point → AllowFrom at choices (v ∷ point)
allow_more at choices v point h k zero = subst (λ n. Allows (choice_at choices n) v) (omega arith) h
allow_more at choices v point h k (suc place) = subst (λ n. Allows (choice_at choices n) (value_at point place)) (omega arith) (k place)

bounds_cons : (at : ℕ) (s : Sides) (box : List Sides) (choices : List Choice) (v : ℚ) (point : List ℚ) (rest : Option ℕ) (t : Bool) → is_kept s (choice_at choices at) v ≡ t → FirstOutsideSays (at + 1) box choices point rest → FirstOutsideSays at (s ∷ box) choices (v ∷ point) (cond t rest (Some at))
bounds_cons at s box choices v point None true e h =
    let kept = kept_says s (choice_at choices at) v e in
    ((kept.between, h.0), allow_more at choices v point kept.allowed h.1)
bounds_cons at s box choices v point (Some column) true e h = record { place = suc h.place; is = omega (arith, h.is); is_place = omega (arith, h.is_place); outside = h.outside }
bounds_cons at s box choices v point rest false e h = record { place = 0; is = omega arith; is_place = omega arith; outside = not_kept_says s (choice_at choices at) v e }

first_outside_holds : (at : ℕ) (box : List Sides) (choices : List Choice) (point : List ℚ) → length box ≡ length point → FirstOutsideSays at box choices point (first_outside at box choices point)
first_outside_holds at [] choices [] e = (tt, λ place. zero_allowed (choice_at choices (at + place)))
first_outside_holds at [] choices (v ∷ vs) e = absurd (omega (arith, e))
first_outside_holds at (s ∷ ss) choices [] e = absurd (omega (arith, e))
first_outside_holds at (s ∷ ss) choices (v ∷ vs) e =
    bounds_cons at s ss choices v vs (first_outside (at + 1) ss choices vs) (is_kept s (choice_at choices at) v) refl (first_outside_holds (at + 1) ss choices vs (omega (arith, e)))

-- ---- whole columns

-- a place, counted from `at`, that is to have a whole value and has not
record FractionalFrom (at : ℕ) (integral : List Bool) (point : List ℚ) (column : ℕ) : Type 0 where
  pub place : ℕ
  pub is : column ≡ at + place
  pub integral_there : slice_get integral place ≡ Some true
  pub not_whole : ¬ IsWhole (value_at point place)

-- where there is no first place that is to be whole and is not, each is
abbrev FirstFractionalSays : ℕ → List Bool → List ℚ → Option ℕ → Type 0
FirstFractionalSays at integral point None = AreWhole integral point
FirstFractionalSays at integral point (Some column) = FractionalFrom at integral point column

pub not_IsWhole_of_test : (v : ℚ) → is_whole v ≡ false → ¬ IsWhole v
not_IsWhole_of_test v e h = true≢false (sym (test_of_IsWhole v h) ∙ e)

wholes_cons : (at : ℕ) (w : Bool) (integral : List Bool) (v : ℚ) (point : List ℚ) (rest : Option ℕ) (t : Bool) → is_whole v ≡ t → FirstFractionalSays (at + 1) integral point rest → FirstFractionalSays at (w ∷ integral) (v ∷ point) (cond (w && not t) (Some at) rest)
wholes_cons at false integral v point None t e h = (λ f. absurd (true≢false (sym f)), h)
wholes_cons at false integral v point (Some column) t e h = record { place = suc h.place; is = omega (arith, h.is); integral_there = h.integral_there; not_whole = h.not_whole }
wholes_cons at true integral v point None true e h = (λ _. IsWhole_of_test v e, h)
wholes_cons at true integral v point (Some column) true e h = record { place = suc h.place; is = omega (arith, h.is); integral_there = h.integral_there; not_whole = h.not_whole }
wholes_cons at true integral v point rest false e h = record { place = 0; is = omega arith; integral_there = refl; not_whole = not_IsWhole_of_test v e }

first_not_whole_holds : (at : ℕ) (integral : List Bool) (point : List ℚ) → length integral ≡ length point → FirstFractionalSays at integral point (first_not_whole at integral point)
first_not_whole_holds at [] [] e = tt
first_not_whole_holds at [] (v ∷ vs) e = absurd (omega (arith, e))
first_not_whole_holds at (w ∷ ws) [] e = absurd (omega (arith, e))
first_not_whole_holds at (w ∷ ws) (v ∷ vs) e =
    wholes_cons at w ws v vs (first_not_whole (at + 1) ws vs) (is_whole v) refl (first_not_whole_holds (at + 1) ws vs (omega (arith, e)))

-- ---- rows

-- what a verdict on rows says, these being counted from `at`
abbrev RowVerdictSays : ℕ → List Row → List ℚ → Verdict → Type 0
RowVerdictSays at rows point (Feasible cost) = ⊥
RowVerdictSays at rows point (BreaksBound column) = ⊥
RowVerdictSays at rows point (BreaksWhole column) = ⊥
RowVerdictSays at rows point (BreaksRow number value) = (place : ℕ) × (number ≡ at + place) × IsBroken rows point place value
RowVerdictSays at rows point (Wide Cost) = ⊥
RowVerdictSays at rows point (Wide (AtRow number)) = (place : ℕ) × (number ≡ at + place) × RowOverflows rows point place

-- where there is no first verdict on rows, each is satisfied
abbrev FirstBrokenSays : ℕ → List Row → List ℚ → Option Verdict → Type 0
FirstBrokenSays at rows point None = AllByRecursion (λ row. IsSatisfied row point) rows
FirstBrokenSays at rows point (Some verdict) = RowVerdictSays at rows point verdict

pub later_broken : {row : Row} {rows : List Row} {point : List ℚ} {number : ℕ} {value : ℚ} → IsBroken rows point number value → IsBroken (row ∷ rows) point (suc number) value
later_broken h = record { row = h.row; is_row = h.is_row; is_activity = h.is_activity; broken = h.broken }

pub later_overflows : {row : Row} {rows : List Row} {point : List ℚ} {number : ℕ} → RowOverflows rows point number → RowOverflows (row ∷ rows) point (suc number)
later_overflows h = record { row = h.row; is_row = h.is_row; overflows = h.overflows }

later_say : (at : ℕ) (row : Row) (rows : List Row) (point : List ℚ) (verdict : Verdict) → RowVerdictSays (at + 1) rows point verdict → RowVerdictSays at (row ∷ rows) point verdict
later_say at row rows point (Feasible cost) h = h
later_say at row rows point (BreaksBound column) h = h
later_say at row rows point (BreaksWhole column) h = h
later_say at row rows point (BreaksRow number value) h = (suc h.0, omega (arith, h.1), later_broken h.2)
later_say at row rows point (Wide Cost) h = h
later_say at row rows point (Wide (AtRow number)) h = (suc h.0, omega (arith, h.1), later_overflows h.2)

rows_cons : (at : ℕ) (row : Row) (rows : List Row) (point : List ℚ) (rest : Option Verdict) (sum : Result ℚ Overflow) → activity_from zeroℚ row.terms point ≡ sum → FirstBrokenSays (at + 1) rows point rest → FirstBrokenSays at (row ∷ rows) point (or_else (row_verdict at row sum) rest)
rows_cons at row rows point rest (Err overflow) e h = (0, omega arith, record { row = row; is_row = refl; overflows = rw e refl })
rows_cons at row rows point rest (Ok value) e h = tested (is_between row.low row.high value) rest refl h
  where
    same : value ≡ activity row.terms point
    same = rw e at (activity_from-zero row.terms point)

    tested : (t : Bool) (rest : Option Verdict) → is_between row.low row.high value ≡ t → FirstBrokenSays (at + 1) rows point rest → FirstBrokenSays at (row ∷ rows) point (or_else (cond t None (Some (BreaksRow at value))) rest)
    tested true None f k = (subst (Between row.low row.high) same (between_of_test row.low row.high value f), k)
    tested true (Some verdict) f k = later_say at row rows point verdict k
    tested false rest f k =
        (0, omega arith, record { row = row; is_row = refl; is_activity = same; broken = subst (λ v. ¬ Between row.low row.high v) same (not_between_of_test row.low row.high value f) })

first_broken_holds : (at : ℕ) (rows : List Row) (point : List ℚ) → FirstBrokenSays at rows point (first_broken at rows point)
first_broken_holds at [] point = tt
first_broken_holds at (row ∷ rows) point =
    rows_cons at row rows point (first_broken (at + 1) rows point) (activity_from zeroℚ row.terms point) refl (first_broken_holds (at + 1) rows point)

-- ---- the verdict

module _ (program : Program) (point : List ℚ) where
  cost_case : (sum : Result ℚ Overflow) → dot_from program.constant program.costs point ≡ sum → IsFeasible program point → VerdictHolds program point (cost_verdict sum)
  cost_case (Ok cost) e h = (h, rw e at (dot_from-value program.constant program.costs point))
  cost_case (Err overflow) e h = rw e refl

  rows_case : (first : Option Verdict) (next : Verdict) → FirstBrokenSays 0 program.rows point first → (AllByRecursion (λ row. IsSatisfied row point) program.rows → VerdictHolds program point next) → VerdictHolds program point (from_rows first next)
  rows_case None next h f = f h
  rows_case (Some (Feasible cost)) next h f = absurd h
  rows_case (Some (BreaksBound column)) next h f = absurd h
  rows_case (Some (BreaksWhole column)) next h f = absurd h
  rows_case (Some (BreaksRow number value)) next h f = subst (λ n. IsBroken program.rows point n value) (omega (arith, h.1)) h.2
  rows_case (Some (Wide Cost)) next h f = absurd h
  rows_case (Some (Wide (AtRow number))) next h f = subst (λ n. RowOverflows program.rows point n) (omega (arith, h.1)) h.2

  wholes_case : (first : Option ℕ) (next : Verdict) → FirstFractionalSays 0 program.integral point first → (AreWhole program.integral point → VerdictHolds program point next) → VerdictHolds program point (from_wholes first next)
  wholes_case None next h f = f h
  wholes_case (Some column) next h f =
      let e : h.place ≡ column = omega (arith, h.is) in
      subst (λ n. IsFractional program point n) e (record { integral = h.integral_there; not_whole = h.not_whole })

  bounds_case : IsWellFormed program → (first : Option ℕ) (next : Verdict) → FirstOutsideSays 0 program.bounds program.choices point first → (IsInBox program.bounds point → KeepsChoices program.choices point → VerdictHolds program point next) → VerdictHolds program point (from_bounds first next)
  bounds_case formed None next h f =
      f h.0 (λ column. let e : 0 + column ≡ column = omega arith in subst (λ n. Allows (choice_at program.choices n) (value_at point column)) e (h.1 column))
  bounds_case formed (Some column) next h f =
      let e : h.place ≡ column = omega (arith, h.is) in
      record {
        is_column = omega (arith, h.is_place, e, formed.bounds);
        outside = subst (λ n. ¬ IsKept (sides_at program.bounds n) (choice_at program.choices column) (value_at point n)) e h.outside;
      }

  -- the verdict on a point with a value for each column holds
  pub verdict_holds : IsWellFormed program → length point ≡ columns program → VerdictHolds program point (verdict_of program point)
  verdict_holds formed long =
      bounds_case formed (first_outside 0 program.bounds program.choices point) _ (first_outside_holds 0 program.bounds program.choices point (formed.bounds ∙ sym long))
      (λ within choices. wholes_case (first_not_whole 0 program.integral point) _ (first_not_whole_holds 0 program.integral point (formed.integral ∙ sym long))
      (λ wholes. rows_case (first_broken 0 program.rows point) _ (first_broken_holds 0 program.rows point)
      (λ rows. cost_case (dot_from program.constant program.costs point) refl (record { within = within; whole = wholes; choices = choices; rows = rows }))))

  pub verdict_is_right : (verdict : Verdict) → verdict ≡ verdict_of program point → IsWellFormed program → length point ≡ columns program → VerdictHolds program point verdict
  verdict_is_right verdict e formed long = rw e (verdict_holds formed long)

  -- ---- what callers may conclude

  outside_is_infeasible : (column : ℕ) → IsOutside program point column → ¬ IsFeasible program point
  outside_is_infeasible column h k = h.outside (record { between = in_box_at program.bounds point column k.within; allowed = k.choices column })

  fractional_is_infeasible : (column : ℕ) → IsFractional program point column → ¬ IsFeasible program point
  fractional_is_infeasible column h k = h.not_whole (whole_at program.integral point column k.whole h.integral)

  broken_is_infeasible : (number : ℕ) (value : ℚ) → IsBroken program.rows point number value → ¬ IsFeasible program point
  broken_is_infeasible number value h k = h.broken (satisfied_at program.rows point number h.row k.rows h.is_row)

  -- a feasible point is found to be feasible, at its cost, or a sum overflows
  pub feasible_or_wide : (verdict : Verdict) → VerdictHolds program point verdict → IsFeasible program point → (verdict ≡ Feasible (cost_of program point)) ⊎ ((place : Place) × (verdict ≡ Wide place))
  feasible_or_wide (Feasible cost) h k = inl (ap Feasible h.1)
  feasible_or_wide (BreaksBound column) h k = absurd (outside_is_infeasible column h k)
  feasible_or_wide (BreaksWhole column) h k = absurd (fractional_is_infeasible column h k)
  feasible_or_wide (BreaksRow number value) h k = absurd (broken_is_infeasible number value h k)
  feasible_or_wide (Wide place) h k = inr (place, refl)

  -- so it is with the verdict of `verdict_of`
  pub verdict_on_feasible : IsWellFormed program → IsFeasible program point → (verdict_of program point ≡ Feasible (cost_of program point)) ⊎ ((place : Place) × (verdict_of program point ≡ Wide place))
  verdict_on_feasible formed k =
      feasible_or_wide (verdict_of program point) (verdict_holds formed (IsInBox-long program.bounds point k.within ∙ formed.bounds)) k
