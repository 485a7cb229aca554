-- The verdict on a point of a block holds.
use Rattle.std.proofs.Common.{◌≡◌, ℕ, zero, suc, ◌+◌, ◌<◌, ◌==◌, Bool, true, false, cond, not, ◌&&◌, List, [], ◌∷◌, Option, None, Some, Result, Ok, Err, length, slice_get, refl, sym, ◌∙◌, subst, arith, true≢false}
use Rattle.std.specs.List.{AllByRecursion}
use Rattle.std.proofs.lemmas.Bool.{eqb-true, eqb-false}
use Rattle.cip_rational.specs.Rational.{ℚ, zeroℚ, IsWhole, is_whole}
use Rattle.cip_rational.proofs.Rational.Whole.{IsWhole_of_test}
use Rattle.cip_frac.specs.declared.operations.Wide.{Wide as Overflow}
use Rattle.cip_problem.specs.Program.{Sides, Row, Choice}
use Rattle.cip_problem.specs.Activity.{activity, value_at}
use Rattle.cip_problem.specs.Box.{Between, IsInBox, sides_at, is_between}
use Rattle.cip_problem.proofs.Box.SideTests.{between_of_test, not_between_of_test}
use Rattle.cip_problem.specs.Choices.{choice_at, Allows, KeepsChoices}
use Rattle.cip_problem.specs.Points.{IsSatisfied, AreWhole}
use Rattle.cip_problem.proofs.Choices.Decided.{zero_allowed}
use Rattle.cip_lin.specs.RowSums.{activity_from}
use Rattle.cip_lin.proofs.RowSums.ActivityValue.{activity_from-zero}
use Rattle.cip_model.specs.Verdicts.{is_kept, first_outside, first_not_whole}
use Rattle.cip_model.specs.Meaning.{IsKept, IsBroken, RowOverflows}
use Rattle.cip_model.proofs.Meaning.Point.{not_kept_says, kept_says, not_IsWhole_of_test, later_broken, later_overflows}
use Rattle.cip_pricing.specs.Decomposition.{Conditions}
use Rattle.cip_master.specs.declared.verdicts.PointVerdict.{PointVerdict}
use Rattle.cip_master.specs.declared.verdicts.PointVerdict.TheVariants.{Good, WrongCount, BreaksBound, BreaksWhole, BreaksRow, Wide}
use Rattle.cip_master.specs.BlockVerdicts.{row_fault, or_else, first_faulty, from_rows, from_wholes, from_bounds, verdict_of, verdict_on, VerdictSays}

-- ---- bounds and choices

-- a place, counted from `at`, whose value is outside its sides or isn't allowed
record OutsideFrom (at : ℕ) (box : List Sides) (choices : List Choice) (point : List ℚ) (column : ℕ) : Type 0 where
  pub place : ℕ
  pub is : at + place ≡ column
  pub is_place : place < length box
  pub outside : ¬ IsKept (sides_at box place) (choice_at choices column) (value_at point place)

-- the values from `at` on are allowed
abbrev AllowFrom : ℕ → List Choice → List ℚ → Type 0
AllowFrom at choices point = (place : ℕ) → Allows (choice_at choices (at + place)) (value_at point place)

-- where there is no first place outside, the point is in the box, and its values are allowed
abbrev FirstOutsideSays : ℕ → List Sides → List Choice → List ℚ → Option ℕ → Type 0
FirstOutsideSays at box choices point None = IsInBox box point × AllowFrom at choices point
FirstOutsideSays at box choices point (Some column) = OutsideFrom at box choices point column

allow_more : (at : ℕ) (choices : List Choice) (v : ℚ) (point : List ℚ) → Allows (choice_at choices at) v → AllowFrom (at + 1) choices point → AllowFrom at choices (v ∷ point)
allow_more at choices v point h k zero = subst (λ n. Allows (choice_at choices n) v) (omega arith) h
allow_more at choices v point h k (suc place) = subst (λ n. Allows (choice_at choices n) (value_at point place)) (omega arith) (k place)

bounds_cons : (at : ℕ) (s : Sides) (box : List Sides) (choices : List Choice) (v : ℚ) (point : List ℚ) (rest : Option ℕ) (t : Bool) → is_kept s (choice_at choices at) v ≡ t → FirstOutsideSays (at + 1) box choices point rest → FirstOutsideSays at (s ∷ box) choices (v ∷ point) (cond t rest (Some at))
bounds_cons at s box choices v point None true e h =
    let kept = kept_says s (choice_at choices at) v e in
    ((kept.between, h.0), allow_more at choices v point kept.allowed h.1)
bounds_cons at s box choices v point (Some column) true e h = record { place = suc h.place; is = omega (arith, h.is); is_place = omega (arith, h.is_place); outside = h.outside }
bounds_cons at s box choices v point rest false e h = record { place = 0; is = omega arith; is_place = omega arith; outside = not_kept_says s (choice_at choices at) v e }

first_outside_holds : (at : ℕ) (box : List Sides) (choices : List Choice) (point : List ℚ) → length box ≡ length point → FirstOutsideSays at box choices point (first_outside at box choices point)
first_outside_holds at [] choices [] e = (tt, λ place. zero_allowed (choice_at choices (at + place)))
first_outside_holds at [] choices (v ∷ vs) e = absurd (omega (arith, e))
first_outside_holds at (s ∷ ss) choices [] e = absurd (omega (arith, e))
first_outside_holds at (s ∷ ss) choices (v ∷ vs) e =
    bounds_cons at s ss choices v vs (first_outside (at + 1) ss choices vs) (is_kept s (choice_at choices at) v) refl (first_outside_holds (at + 1) ss choices vs (omega (arith, e)))

-- ---- whole columns

-- a place, counted from `at`, that is to have a whole value and has not
record FractionalFrom (at : ℕ) (integral : List Bool) (point : List ℚ) (column : ℕ) : Type 0 where
  pub place : ℕ
  pub is : column ≡ at + place
  pub integral_there : slice_get integral place ≡ Some true
  pub not_whole : ¬ IsWhole (value_at point place)

-- where there is no first place that is to be whole and is not, each is
abbrev FirstFractionalSays : ℕ → List Bool → List ℚ → Option ℕ → Type 0
FirstFractionalSays at integral point None = AreWhole integral point
FirstFractionalSays at integral point (Some column) = FractionalFrom at integral point column

wholes_cons : (at : ℕ) (w : Bool) (integral : List Bool) (v : ℚ) (point : List ℚ) (rest : Option ℕ) (t : Bool) → is_whole v ≡ t → FirstFractionalSays (at + 1) integral point rest → FirstFractionalSays at (w ∷ integral) (v ∷ point) (cond (w && not t) (Some at) rest)
wholes_cons at false integral v point None t e h = (λ f. absurd (true≢false (sym f)), h)
wholes_cons at false integral v point (Some column) t e h = record { place = suc h.place; is = omega (arith, h.is); integral_there = h.integral_there; not_whole = h.not_whole }
wholes_cons at true integral v point None true e h = (λ _. IsWhole_of_test v e, h)
wholes_cons at true integral v point (Some column) true e h = record { place = suc h.place; is = omega (arith, h.is); integral_there = h.integral_there; not_whole = h.not_whole }
wholes_cons at true integral v point rest false e h = record { place = 0; is = omega arith; integral_there = refl; not_whole = not_IsWhole_of_test v e }

first_not_whole_holds : (at : ℕ) (integral : List Bool) (point : List ℚ) → length integral ≡ length point → FirstFractionalSays at integral point (first_not_whole at integral point)
first_not_whole_holds at [] [] e = tt
first_not_whole_holds at [] (v ∷ vs) e = absurd (omega (arith, e))
first_not_whole_holds at (w ∷ ws) [] e = absurd (omega (arith, e))
first_not_whole_holds at (w ∷ ws) (v ∷ vs) e =
    wholes_cons at w ws v vs (first_not_whole (at + 1) ws vs) (is_whole v) refl (first_not_whole_holds (at + 1) ws vs (omega (arith, e)))

-- ---- rows

-- what a verdict on rows says, these being counted from `at`
abbrev RowVerdictSays : ℕ → List Row → List ℚ → PointVerdict → Type 0
RowVerdictSays at rows point Good = ⊥
RowVerdictSays at rows point WrongCount = ⊥
RowVerdictSays at rows point (BreaksBound column) = ⊥
RowVerdictSays at rows point (BreaksWhole column) = ⊥
RowVerdictSays at rows point (BreaksRow number value) = (place : ℕ) × (number ≡ at + place) × IsBroken rows point place value
RowVerdictSays at rows point (Wide number) = (place : ℕ) × (number ≡ at + place) × RowOverflows rows point place

-- where there is no first verdict on rows, each is satisfied
abbrev FirstBrokenSays : ℕ → List Row → List ℚ → Option PointVerdict → Type 0
FirstBrokenSays at rows point None = AllByRecursion (λ row. IsSatisfied row point) rows
FirstBrokenSays at rows point (Some verdict) = RowVerdictSays at rows point verdict

later_say : (at : ℕ) (row : Row) (rows : List Row) (point : List ℚ) (verdict : PointVerdict) → RowVerdictSays (at + 1) rows point verdict → RowVerdictSays at (row ∷ rows) point verdict
later_say at row rows point Good h = h
later_say at row rows point WrongCount h = h
later_say at row rows point (BreaksBound column) h = h
later_say at row rows point (BreaksWhole column) h = h
later_say at row rows point (BreaksRow number value) h = (suc h.0, omega (arith, h.1), later_broken h.2)
later_say at row rows point (Wide number) h = (suc h.0, omega (arith, h.1), later_overflows h.2)

rows_cons : (at : ℕ) (row : Row) (rows : List Row) (point : List ℚ) (rest : Option PointVerdict) (sum : Result ℚ Overflow) → activity_from zeroℚ row.terms point ≡ sum → FirstBrokenSays (at + 1) rows point rest → FirstBrokenSays at (row ∷ rows) point (or_else (row_fault at row sum) rest)
rows_cons at row rows point rest (Err overflow) e h = (0, omega arith, record { row = row; is_row = refl; overflows = rw e refl })
rows_cons at row rows point rest (Ok value) e h = tested (is_between row.low row.high value) rest refl h
  where
    same : value ≡ activity row.terms point
    same = rw e at (activity_from-zero row.terms point)

    tested : (t : Bool) (rest : Option PointVerdict) → is_between row.low row.high value ≡ t → FirstBrokenSays (at + 1) rows point rest → FirstBrokenSays at (row ∷ rows) point (or_else (cond t None (Some (BreaksRow at value))) rest)
    tested true None f k = (subst (Between row.low row.high) same (between_of_test row.low row.high value f), k)
    tested true (Some verdict) f k = later_say at row rows point verdict k
    tested false rest f k =
        (0, omega arith, record { row = row; is_row = refl; is_activity = same; broken = subst (λ v. ¬ Between row.low row.high v) same (not_between_of_test row.low row.high value f) })

first_faulty_holds : (at : ℕ) (rows : List Row) (point : List ℚ) → FirstBrokenSays at rows point (first_faulty at rows point)
first_faulty_holds at [] point = tt
first_faulty_holds at (row ∷ rows) point =
    rows_cons at row rows point (first_faulty (at + 1) rows point) (activity_from zeroℚ row.terms point) refl (first_faulty_holds (at + 1) rows point)

-- ---- the verdict

module _ (conditions : Conditions) (box : List Sides) (point : List ℚ) where
  rows_case : (first : Option PointVerdict) → FirstBrokenSays 0 conditions.rows point first → IsInBox box point
      → KeepsChoices conditions.choices point → AreWhole conditions.integral point
      → VerdictSays conditions box point (from_rows first)
  rows_case None h within choices whole = record { within = within; whole = whole; choices = choices; rows = h }
  rows_case (Some Good) h within choices whole = absurd h
  rows_case (Some WrongCount) h within choices whole = absurd h
  rows_case (Some (BreaksBound column)) h within choices whole = absurd h
  rows_case (Some (BreaksWhole column)) h within choices whole = absurd h
  rows_case (Some (BreaksRow number value)) h within choices whole = subst (λ n. IsBroken conditions.rows point n value) (omega (arith, h.1)) h.2
  rows_case (Some (Wide number)) h within choices whole = subst (λ n. RowOverflows conditions.rows point n) (omega (arith, h.1)) h.2

  wholes_case : (first : Option ℕ) (next : PointVerdict) → FirstFractionalSays 0 conditions.integral point first
      → (AreWhole conditions.integral point → VerdictSays conditions box point next)
      → VerdictSays conditions box point (from_wholes first next)
  wholes_case None next h f = f h
  wholes_case (Some column) next h f =
      let e : h.place ≡ column = omega (arith, h.is) in
      record { integral = subst (λ n. slice_get conditions.integral n ≡ Some true) e h.integral_there; not_whole = subst (λ n. ¬ IsWhole (value_at point n)) e h.not_whole }

  bounds_case : (first : Option ℕ) (next : PointVerdict) → FirstOutsideSays 0 box conditions.choices point first
      → (IsInBox box point → KeepsChoices conditions.choices point → VerdictSays conditions box point next)
      → VerdictSays conditions box point (from_bounds first next)
  bounds_case None next h f =
      f h.0 (λ column. let e : 0 + column ≡ column = omega arith in subst (λ n. Allows (choice_at conditions.choices n) (value_at point column)) e (h.1 column))
  bounds_case (Some column) next h f =
      let e : h.place ≡ column = omega (arith, h.is) in
      record {
        is_column = omega (arith, h.is_place, e);
        outside = subst (λ n. ¬ IsKept (sides_at box n) (choice_at conditions.choices column) (value_at point n)) e h.outside;
      }

  says : length conditions.integral ≡ length box → length box ≡ length point
      → VerdictSays conditions box point (verdict_of conditions box point)
  says flags long =
      bounds_case (first_outside 0 box conditions.choices point) _ (first_outside_holds 0 box conditions.choices point long)
      (λ within choices. wholes_case (first_not_whole 0 conditions.integral point) _ (first_not_whole_holds 0 conditions.integral point (flags ∙ long))
      (λ whole. rows_case (first_faulty 0 conditions.rows point) (first_faulty_holds 0 conditions.rows point) within choices whole))

  by_count : (t : Bool) → (length box == length point) ≡ t → length conditions.integral ≡ length box
      → VerdictSays conditions box point (cond t (verdict_of conditions box point) WrongCount)
  by_count true e flags = says flags (eqb-true (length box) (length point) e)
  by_count false e flags = eqb-false (length box) (length point) e

  -- the verdict on a list of values holds
  pub verdict_says : length conditions.integral ≡ length box
      → VerdictSays conditions box point (verdict_on conditions box point)
  verdict_says flags = by_count (length box == length point) refl flags
