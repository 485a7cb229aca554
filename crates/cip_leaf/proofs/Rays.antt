-- A ray of a leaf's program, with 0 on whole columns, is one of the program.
use Rattle.std.proofs.Common.{◌≡◌, inl, inr, ℕ, zero, suc, Bool, true, false, List, [], ◌∷◌, map, length, Option, None, Some, IfSome, Result, Ok, Err, refl, sym, ap, ◌∙◌, subst, arith, true≢false}
use Rattle.std.specs.Prelude.{IsErr}
use Rattle.std.specs.List.{AllZip, AllByRecursion}
use Rattle.cip_rational.specs.Rational.{ℚ, ◌+ℚ◌, ◌*ℚ◌, zeroℚ, ◌≤ℚ◌, ◌<ℚ◌}
use Rattle.cip_rational.specs.Sums.{dot}
use Rattle.cip_rational.proofs.Rational.Order.{≤ℚ_refl}
use Rattle.cip_rational.proofs.Rational.Ring.{zero-+ℚ, *ℚ-zero}
use Rattle.cip_problem.specs.Program.{Term, Sides, Row, Program}
use Rattle.cip_problem.specs.WellFormed.{IsWellFormed}
use Rattle.cip_problem.specs.Activity.{activity, value_at}
use Rattle.cip_problem.specs.Points.{cost_of}
use Rattle.cip_problem.specs.LinearProgram.{LinearProgram, IsPoint, StaysBetween, IsRay as IsLinearRay}
use Rattle.cip_frac.specs.declared.operations.Wide.{Wide as Overflow}
use Rattle.cip_frac.specs.Outcomes.{dot_from}
use Rattle.cip_bland.specs.EndAnswers as def
use Rattle.cip_bland.specs.NoRepeat.{whole_answer}
use Rattle.cip_bland.specs.Statements.{IsRight, ShowsUnbounded}
use Rattle.cip_search.specs.Leaf.{IsLeaf, IsPointOf}
use Rattle.cip_search.specs.LeafProgram.{at_continuous, merged, continuous_terms, shifted, row_of_leaf, program_of_leaf}
use Rattle.cip_search.specs.WideLeaf.{AtPlace, SumOverflows, EndOverflows, IsWideBy}
use Rattle.cip_search.proofs.Merged.{activity_split, dot_split, point_back, merged-long}
use Rattle.cip_model.specs.declared.verdicts.Place.{Place}
use Rattle.cip_model.specs.declared.verdicts.Place.TheVariants.{Row as AtRow, Cost}
use Rattle.cip_model.specs.declared.verdicts.Verdict.TheVariants.{Feasible, Wide}
use Rattle.cip_model.specs.Meaning.{Overflows, RowOverflows}
use Rattle.cip_model.specs.Rays.{AreStill, IsRay, RayOverflows, RaySumsFit, IsShownRay}
use Rattle.cip_model.specs.Verdicts.{verdict_of}
use Rattle.cip_model.proofs.Meaning.Point.{verdict_on_feasible}
use Rattle.cip_model.proofs.Meaning.Ray.{falls_along}
use Rattle.cip_leaf.specs.LeafAnswers.{place_of, IsRayOfValues, EndsInRay, IsFirstAlong}
use Rattle.cip_leaf.proofs.Sums.{point_overflows, ray_overflows}
use Rattle.cip_leaf.proofs.Ends.{right, long_point}

-- ---- zeros

all_zero : (integral : List Bool) (column : ℕ) → value_at (merged integral [] []) column ≡ zeroℚ
all_zero [] column = refl
all_zero (true ∷ ws) zero = refl
all_zero (true ∷ ws) (suc column) = all_zero ws column
all_zero (false ∷ ws) zero = refl
all_zero (false ∷ ws) (suc column) = all_zero ws column

no_activity : (integral : List Bool) (terms : List Term) → activity terms (merged integral [] []) ≡ zeroℚ
no_activity integral [] = refl
no_activity integral (t ∷ ts) =
    ap (λ v. t.coefficient *ℚ v +ℚ activity ts (merged integral [] [])) (all_zero integral t.column)
    ∙ ap (λ v. v +ℚ activity ts (merged integral [] [])) (*ℚ-zero t.coefficient)
    ∙ zero-+ℚ (activity ts (merged integral [] []))
    ∙ no_activity integral ts

no_cost : (integral : List Bool) (costs : List ℚ) → dot costs (merged integral [] []) ≡ zeroℚ
no_cost integral [] = refl
no_cost [] (c ∷ cs) = refl
no_cost (true ∷ ws) (c ∷ cs) = ap (λ v. v +ℚ dot cs (merged ws [] [])) (*ℚ-zero c) ∙ zero-+ℚ (dot cs (merged ws [] [])) ∙ no_cost ws cs
no_cost (false ∷ ws) (c ∷ cs) = ap (λ v. v +ℚ dot cs (merged ws [] [])) (*ℚ-zero c) ∙ zero-+ℚ (dot cs (merged ws [] [])) ∙ no_cost ws cs

-- ---- sides

zero_not_down : (low : Option ℚ) → IfSome low (λ _. zeroℚ ≤ℚ zeroℚ)
zero_not_down None = tt
zero_not_down (Some side) = ≤ℚ_refl zeroℚ

pub zero_stays : (low high : Option ℚ) → StaysBetween low high zeroℚ
zero_stays low high = record { not_down = zero_not_down low; not_up = zero_not_down high }

box_stays : (integral : List Bool) (box : List Sides) (direction : List ℚ) → length integral ≡ length box → AllZip (λ sides change. StaysBetween sides.low sides.high change) (at_continuous integral box) direction → AllZip (λ sides change. StaysBetween sides.low sides.high change) box (merged integral [] direction)
box_stays [] [] direction e h = tt
box_stays [] (s ∷ ss) direction e h = absurd (omega (arith, e))
box_stays (w ∷ ws) [] direction e h = absurd (omega (arith, e))
box_stays (true ∷ ws) (s ∷ ss) direction e h = (zero_stays s.low s.high, box_stays ws ss direction (omega (arith, e)) h)
box_stays (false ∷ ws) (s ∷ ss) [] e h = absurd h
box_stays (false ∷ ws) (s ∷ ss) (c ∷ cs) e h = (h.0, box_stays ws ss cs (omega (arith, e)) h.1)

wholes_still : (integral : List Bool) (direction : List ℚ) → AreStill integral (merged integral [] direction)
wholes_still [] direction = tt
wholes_still (true ∷ ws) direction = (λ _. refl, wholes_still ws direction)
wholes_still (false ∷ ws) [] = (λ e. absurd (true≢false (sym e)), wholes_still ws [])
wholes_still (false ∷ ws) (c ∷ cs) = (λ e. absurd (true≢false (sym e)), wholes_still ws cs)

low_back : (low : Option ℚ) (part change : ℚ) → IfSome (shifted low part) (λ _. zeroℚ ≤ℚ change) → IfSome low (λ _. zeroℚ ≤ℚ change)
low_back None part change h = tt
low_back (Some side) part change h = h

high_back : (high : Option ℚ) (part change : ℚ) → IfSome (shifted high part) (λ _. change ≤ℚ zeroℚ) → IfSome high (λ _. change ≤ℚ zeroℚ)
high_back None part change h = tt
high_back (Some side) part change h = h

-- ---- the ray

module _ (program : Program) (leaf : List ℚ) where
  row_stays : (row : Row) (direction : List ℚ) → StaysBetween (row_of_leaf program leaf row).low (row_of_leaf program leaf row).high (activity (row_of_leaf program leaf row).terms direction) → StaysBetween row.low row.high (activity row.terms (merged program.integral [] direction))
  row_stays row direction h =
      let part = activity row.terms (merged program.integral leaf []) in
      let change = activity (continuous_terms program.integral row.terms) direction in
      let e : activity row.terms (merged program.integral [] direction) ≡ change = activity_split program.integral [] direction row.terms ∙ ap (λ t. t +ℚ change) (no_activity program.integral row.terms) ∙ zero-+ℚ change in
      subst (StaysBetween row.low row.high) (sym e)
      (record { not_down = low_back row.low part change h.not_down; not_up = high_back row.high part change h.not_up })

  rows_stay : (rows : List Row) (direction : List ℚ) → AllByRecursion (λ row. StaysBetween row.low row.high (activity row.terms direction)) (map (row_of_leaf program leaf) rows) → AllByRecursion (λ row. StaysBetween row.low row.high (activity row.terms (merged program.integral [] direction))) rows
  rows_stay [] direction h = tt
  rows_stay (r ∷ rs) direction h = (row_stays r direction h.0, rows_stay rs direction h.1)

  pub ray_back : (direction : List ℚ) → IsWellFormed program → IsLinearRay (program_of_leaf program leaf) direction → IsRay program (merged program.integral [] direction)
  ray_back direction formed h =
      let change = dot (program_of_leaf program leaf).costs direction in
      let e : dot program.costs (merged program.integral [] direction) ≡ change = dot_split program.integral [] direction program.costs ∙ ap (λ t. t +ℚ change) (no_cost program.integral program.costs) ∙ zero-+ℚ change in
      record {
        within = box_stays program.integral program.bounds direction (formed.integral ∙ sym formed.bounds) h.within;
        still = wholes_still program.integral direction;
        rows = rows_stay program.rows direction h.rows;
        falls = subst (λ t. t <ℚ zeroℚ) (sym e) h.falls;
      }

-- ---- the end

-- a ray that isn't shown has a sum that overflows, in the row that was found, or in the cost
cost_case : (program : Program) (point ray : List ℚ) (sum : Result ℚ Overflow) → dot_from zeroℚ program.costs ray ≡ sum → ((number : ℕ) → ¬ RowOverflows program.rows ray number) → (RaySumsFit program ray → ⊥) → IsErr (dot_from zeroℚ program.costs ray)
cost_case program point ray (Err overflow) e h k = rw e refl
cost_case program point ray (Ok q) e h k = absurd (k fits)
  where
    fits : RaySumsFit program ray
    fits (AtRow number) o = h number o
    fits Cost o = absurd (let g = rw e at o in cc)

place_overflows : (program : Program) (point ray : List ℚ) (place : Place) → verdict_of program point ≡ Feasible (cost_of program point) → IsRay program ray → ¬ IsShownRay program point ray → IsFirstAlong program.rows ray place → RayOverflows program ray place
place_overflows program point ray (AtRow number) v r n h = h
place_overflows program point ray Cost v r n h =
    cost_case program point ray (dot_from zeroℚ program.costs ray) refl h (λ fits. n (record { feasible = v; is_ray = r; fits = fits }))

module _ (program : Program) (leaf : List ℚ) (formed : IsWellFormed program) (none : program.choices ≡ []) (is_leaf : IsLeaf program leaf) where
  abbrev linear : LinearProgram
  linear = program_of_leaf program leaf

  shows : (others direction : List ℚ) → EndsInRay program leaf others direction → ShowsUnbounded linear others direction
  shows others direction e = subst (IsRight linear) e.is_answer (right program leaf formed none is_leaf)

  pub endless_point : (others direction : List ℚ) → EndsInRay program leaf others direction → IsPointOf program leaf (merged program.integral leaf others)
  endless_point others direction e = point_back program leaf others formed none is_leaf (shows others direction e).is_point

  pub ray_on : (others point ray : List ℚ) → IsPoint linear others → point ≡ merged program.integral leaf others → IsShownRay program point ray → IsRayOfValues program leaf point ray
  ray_on others point ray k p h =
      let there = subst (IsPointOf program leaf) (sym p) (point_back program leaf others formed none is_leaf k) in
      record { is_point = there; shown = h; falls = falls_along program point ray formed there.feasible h.is_ray }

  pub ray_of_leaf : (others direction point ray : List ℚ) → EndsInRay program leaf others direction → point ≡ merged program.integral leaf others → IsShownRay program point ray → IsRayOfValues program leaf point ray
  ray_of_leaf others direction point ray e p h = ray_on others point ray (shows others direction e).is_point p h

  at_point : (place : Place) (a : def.Answer) (others direction : List ℚ) → a ≡ def.Unbounded others direction → SumOverflows program program.constant (merged program.integral leaf others) (place_of place) → EndOverflows program leaf (place_of place) a
  at_point place a others direction e h = rw e (inl h)

  at_ray : (place : Place) (a : def.Answer) (others direction : List ℚ) → a ≡ def.Unbounded others direction → SumOverflows program zeroℚ (merged program.integral [] direction) (place_of place) → EndOverflows program leaf (place_of place) a
  at_ray place a others direction e h = rw e (inr h)

  pub point_wide : (others direction point : List ℚ) (place : Place) → EndsInRay program leaf others direction → point ≡ merged program.integral leaf others → Overflows program point place → IsWideBy program leaf (AtPlace (place_of place))
  point_wide others direction point place e p h =
      inr (inr (at_point place (whole_answer linear) others direction e.is_answer
      (point_overflows program formed (merged program.integral leaf others) (long_point program leaf formed none is_leaf others) place (subst (λ x. Overflows program x place) p h))))

  found : (others direction : List ℚ) → EndsInRay program leaf others direction → ((place : Place) → ¬ (verdict_of program (merged program.integral leaf others) ≡ Wide place)) → verdict_of program (merged program.integral leaf others) ≡ Feasible (cost_of program (merged program.integral leaf others))
  found others direction e n = elim (verdict_on_feasible program (merged program.integral leaf others) formed (endless_point others direction e).feasible) [
    | inl v ↦ v
    | inr w ↦ absurd (n w.0 w.1)
  ]

  ray_wide_at : (others direction : List ℚ) (place : Place) → EndsInRay program leaf others direction → ((found : Place) → ¬ (verdict_of program (merged program.integral leaf others) ≡ Wide found)) → ¬ IsShownRay program (merged program.integral leaf others) (merged program.integral [] direction) → IsFirstAlong program.rows (merged program.integral [] direction) place → IsWideBy program leaf (AtPlace (place_of place))
  ray_wide_at others direction place e n s h =
      let o = place_overflows program (merged program.integral leaf others) (merged program.integral [] direction) place (found others direction e n) (ray_back program leaf direction formed (shows others direction e).is_ray) s h in
      inr (inr (at_ray place (whole_answer linear) others direction e.is_answer
      (ray_overflows program formed (merged program.integral [] direction) (merged-long program.integral [] direction ∙ formed.integral) place o)))

  pub ray_wide : (others direction point ray : List ℚ) (place : Place) → EndsInRay program leaf others direction → point ≡ merged program.integral leaf others → ray ≡ merged program.integral [] direction → ((found : Place) → ¬ (verdict_of program point ≡ Wide found)) → ¬ IsShownRay program point ray → IsFirstAlong program.rows ray place → IsWideBy program leaf (AtPlace (place_of place))
  ray_wide others direction point ray place e p q n s h =
      ray_wide_at others direction place e (λ f v. n f (ap (verdict_of program) p ∙ v))
      (λ k. s (subst (λ x. IsShownRay program x ray) (sym p) (subst (IsShownRay program (merged program.integral leaf others)) (sym q) k)))
      (subst (λ r. IsFirstAlong program.rows r place) q h)
