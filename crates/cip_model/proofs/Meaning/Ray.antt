-- What the test of a ray says.
use Rattle.std.proofs.Common.{◌≡◌, ℕ, zero, suc, Bool, true, false, not, ◌||◌, List, [], ◌∷◌, Option, None, Some, IfSome, Result, Ok, Err, length, slice_get, refl, sym, ap, ◌∙◌, subst, arith, true≢false}
use Rattle.std.specs.Prelude.{IsErr}
use Rattle.std.specs.List.{AllZip, AllByRecursion}
use Rattle.std.proofs.lemmas.Bool.{and_parts, and_from}
use Rattle.std.proofs.lemmas.Option.{none-some, same_Some}
use Rattle.cip_rational.specs.Rational.{ℚ, ◌+ℚ◌, ◌*ℚ◌, zeroℚ, ◌≤ℚ◌, ◌<ℚ◌, IsWhole}
use Rattle.cip_rational.specs.Sums.{dot}
use Rattle.cip_rational.proofs.Rational.Order.{≤ℚ_antisymm, le_of_test, test_of_le, lt_of_test, test_of_lt}
use Rattle.cip_rational.proofs.Rational.Ring.{zero-+ℚ, +ℚ-zero, +ℚ_assoc, *ℚ-zero}
use Rattle.cip_frac.specs.declared.operations.Wide.{Wide as Overflow}
use Rattle.cip_frac.specs.Order.{same_rational, same_from_equal, equal_from_same}
use Rattle.cip_frac.specs.Outcomes.{dot_from}
use Rattle.cip_frac.proofs.Outcomes.{dot_from-value}
use Rattle.cip_problem.specs.Program.{Sides, Row, Choice, Plain, Open, Off, On, Program}
use Rattle.cip_problem.specs.Activity.{activity, value_at}
use Rattle.cip_problem.specs.Box.{IsInBox, sides_at}
use Rattle.cip_problem.specs.Choices.{choice_at, Allows, KeepsChoices, greater, open_sides}
use Rattle.cip_problem.specs.Points.{AreWhole, IsFeasible, cost_of}
use Rattle.cip_problem.specs.WellFormed.{IsChoice, IsWellFormed, columns}
use Rattle.cip_problem.specs.LinearProgram.{LinearProgram, IsPoint, StaysBetween, IsRay as IsLinearRay, moved}
use Rattle.cip_problem.specs.Falling.{FallsWithoutEnd}
use Rattle.cip_problem.proofs.Rays.{ray_points, ray_cost}
use Rattle.cip_lin.specs.RowSums.{activity_from}
use Rattle.cip_lin.proofs.RowSums.ActivityValue.{activity_from-zero}
use Rattle.cip_model.specs.declared.verdicts.Place.TheVariants.{Row as AtRow, Cost}
use Rattle.cip_model.specs.declared.verdicts.Verdict.TheVariants.{Feasible}
use Rattle.cip_model.specs.Meaning.{RowOverflows, VerdictHolds}
use Rattle.cip_model.specs.Verdicts.{verdict_of}
use Rattle.cip_model.proofs.Meaning.Point.{verdict_holds}
use Rattle.cip_model.specs.RayTests.{falls_not, rises_not, stays, all_stay, all_still, row_stays, rows_stay, cost_falls}
use Rattle.cip_model.specs.Rays.{AreStill, IsRay, RaySumsFit, IsShownRay, ShownRaysFall}

-- ---- one value

falls_not_says : (low : Option ℚ) (change : ℚ) → falls_not low change ≡ true → IfSome low (λ _. zeroℚ ≤ℚ change)
falls_not_says None change h = tt
falls_not_says (Some side) change h = le_of_test h

falls_not_from : (low : Option ℚ) (change : ℚ) → IfSome low (λ _. zeroℚ ≤ℚ change) → falls_not low change ≡ true
falls_not_from None change h = refl
falls_not_from (Some side) change h = test_of_le h

rises_not_says : (high : Option ℚ) (change : ℚ) → rises_not high change ≡ true → IfSome high (λ _. change ≤ℚ zeroℚ)
rises_not_says None change h = tt
rises_not_says (Some side) change h = le_of_test h

rises_not_from : (high : Option ℚ) (change : ℚ) → IfSome high (λ _. change ≤ℚ zeroℚ) → rises_not high change ≡ true
rises_not_from None change h = refl
rises_not_from (Some side) change h = test_of_le h

stays_says : (low high : Option ℚ) (change : ℚ) → stays low high change ≡ true → StaysBetween low high change
stays_says low high change h =
    let parts = and_parts (falls_not low change) (rises_not high change) h in
    record { not_down = falls_not_says low change parts.0; not_up = rises_not_says high change parts.1 }

stays_from : (low high : Option ℚ) (change : ℚ) → StaysBetween low high change → stays low high change ≡ true
stays_from low high change h =
    and_from (falls_not low change) (rises_not high change) (falls_not_from low change h.not_down) (rises_not_from high change h.not_up)

-- ---- columns

abbrev KeepsBounds : List Sides → List ℚ → Type 0
KeepsBounds box ray = AllZip (λ sides change. StaysBetween sides.low sides.high change) box ray

all_stay_says : (box : List Sides) (ray : List ℚ) → length box ≡ length ray → all_stay box ray ≡ true → KeepsBounds box ray
all_stay_says [] [] e h = tt
all_stay_says [] (c ∷ cs) e h = absurd (omega (arith, e))
all_stay_says (s ∷ ss) [] e h = absurd (omega (arith, e))
all_stay_says (s ∷ ss) (c ∷ cs) e h =
    let parts = and_parts (stays s.low s.high c) (all_stay ss cs) h in
    (stays_says s.low s.high c parts.0, all_stay_says ss cs (omega (arith, e)) parts.1)

all_stay_from : (box : List Sides) (ray : List ℚ) → KeepsBounds box ray → all_stay box ray ≡ true
all_stay_from [] ray h = refl
all_stay_from (s ∷ ss) [] h = absurd h
all_stay_from (s ∷ ss) (c ∷ cs) h =
    and_from (stays s.low s.high c) (all_stay ss cs) (stays_from s.low s.high c h.0) (all_stay_from ss cs h.1)

still_says : (whole : Bool) (change : ℚ) → (not whole || same_rational change zeroℚ) ≡ true → whole ≡ true → change ≡ zeroℚ
still_says true change h e = equal_from_same change zeroℚ h
still_says false change h e = absurd (true≢false (sym e))

still_from : (whole : Bool) (change : ℚ) → (whole ≡ true → change ≡ zeroℚ) → (not whole || same_rational change zeroℚ) ≡ true
still_from true change h = same_from_equal change zeroℚ (h refl)
still_from false change h = refl

all_still_says : (integral : List Bool) (ray : List ℚ) → length integral ≡ length ray → all_still integral ray ≡ true → AreStill integral ray
all_still_says [] [] e h = tt
all_still_says [] (c ∷ cs) e h = absurd (omega (arith, e))
all_still_says (w ∷ ws) [] e h = absurd (omega (arith, e))
all_still_says (w ∷ ws) (c ∷ cs) e h =
    let parts = and_parts (not w || same_rational c zeroℚ) (all_still ws cs) h in
    (still_says w c parts.0, all_still_says ws cs (omega (arith, e)) parts.1)

all_still_from : (integral : List Bool) (ray : List ℚ) → AreStill integral ray → all_still integral ray ≡ true
all_still_from [] ray h = refl
all_still_from (w ∷ ws) [] h = absurd h
all_still_from (w ∷ ws) (c ∷ cs) h =
    and_from (not w || same_rational c zeroℚ) (all_still ws cs) (still_from w c h.0) (all_still_from ws cs h.1)

-- ---- rows

abbrev KeepsRows : List Row → List ℚ → Type 0
KeepsRows rows ray = AllByRecursion (λ row. StaysBetween row.low row.high (activity row.terms ray)) rows

abbrev RowsFit : List Row → List ℚ → Type 0
RowsFit rows ray = (number : ℕ) → ¬ RowOverflows rows ray number

err_not_ok : {q : ℚ} (sum : Result ℚ Overflow) → sum ≡ Ok q → ¬ IsErr sum
err_not_ok (Ok q) e h = absurd (cc)
err_not_ok (Err overflow) e h = absurd (cc)

row_stays_says : (row : Row) (ray : List ℚ) (sum : Result ℚ Overflow) → activity_from zeroℚ row.terms ray ≡ sum → row_stays row sum ≡ true → StaysBetween row.low row.high (activity row.terms ray) × (¬ IsErr (activity_from zeroℚ row.terms ray))
row_stays_says row ray (Err overflow) e h = absurd (true≢false (sym h))
row_stays_says row ray (Ok change) e h = (
  subst (StaysBetween row.low row.high) (rw e at (activity_from-zero row.terms ray)) (stays_says row.low row.high change h),
  err_not_ok _ e,
)

row_stays_from : (row : Row) (ray : List ℚ) (sum : Result ℚ Overflow) → activity_from zeroℚ row.terms ray ≡ sum → StaysBetween row.low row.high (activity row.terms ray) → (¬ IsErr (activity_from zeroℚ row.terms ray)) → row_stays row sum ≡ true
row_stays_from row ray (Err overflow) e h k = absurd (k (rw e refl))
row_stays_from row ray (Ok change) e h k =
    stays_from row.low row.high change (subst (StaysBetween row.low row.high) (sym (rw e at (activity_from-zero row.terms ray))) h)

rows_fit : (row : Row) (rows : List Row) (ray : List ℚ) → (¬ IsErr (activity_from zeroℚ row.terms ray)) → RowsFit rows ray → RowsFit (row ∷ rows) ray
rows_fit row rows ray h k zero o = h (subst (λ r. IsErr (activity_from zeroℚ r.terms ray)) (sym (same_Some row o.row o.is_row)) o.overflows)
rows_fit row rows ray h k (suc number) o = k number (record { row = o.row; is_row = o.is_row; overflows = o.overflows })

later_fit : (row : Row) (rows : List Row) (ray : List ℚ) → RowsFit (row ∷ rows) ray → RowsFit rows ray
later_fit row rows ray h number o = h (suc number) (record { row = o.row; is_row = o.is_row; overflows = o.overflows })

no_row_fits : (ray : List ℚ) → RowsFit [] ray
no_row_fits ray number o = none-some o.row o.is_row

rows_stay_says : (rows : List Row) (ray : List ℚ) → rows_stay rows ray ≡ true → KeepsRows rows ray × RowsFit rows ray
rows_stay_says [] ray h = (tt, no_row_fits ray)
rows_stay_says (row ∷ rows) ray h =
    let parts = and_parts (row_stays row (activity_from zeroℚ row.terms ray)) (rows_stay rows ray) h in
    let first = row_stays_says row ray (activity_from zeroℚ row.terms ray) refl parts.0 in
    let rest = rows_stay_says rows ray parts.1 in
    ((first.0, rest.0), rows_fit row rows ray first.1 rest.1)

rows_stay_from : (rows : List Row) (ray : List ℚ) → KeepsRows rows ray → RowsFit rows ray → rows_stay rows ray ≡ true
rows_stay_from [] ray h k = refl
rows_stay_from (row ∷ rows) ray h k =
    and_from (row_stays row (activity_from zeroℚ row.terms ray)) (rows_stay rows ray)
    (row_stays_from row ray (activity_from zeroℚ row.terms ray) refl h.0 (λ o. k 0 (record { row = row; is_row = refl; overflows = o })))
    (rows_stay_from rows ray h.1 (later_fit row rows ray k))

-- ---- the cost

cost_falls_says : (costs ray : List ℚ) (sum : Result ℚ Overflow) → dot_from zeroℚ costs ray ≡ sum → cost_falls sum ≡ true → (dot costs ray <ℚ zeroℚ) × (¬ IsErr (dot_from zeroℚ costs ray))
cost_falls_says costs ray (Err overflow) e h = absurd (true≢false (sym h))
cost_falls_says costs ray (Ok change) e h =
    (subst (λ v. v <ℚ zeroℚ) (rw e at (dot_from-value zeroℚ costs ray) ∙ zero-+ℚ (dot costs ray)) (lt_of_test h), err_not_ok _ e)

cost_falls_from : (costs ray : List ℚ) (sum : Result ℚ Overflow) → dot_from zeroℚ costs ray ≡ sum → dot costs ray <ℚ zeroℚ → (¬ IsErr (dot_from zeroℚ costs ray)) → cost_falls sum ≡ true
cost_falls_from costs ray (Err overflow) e h k = absurd (k (rw e refl))
cost_falls_from costs ray (Ok change) e h k =
    test_of_lt (subst (λ v. v <ℚ zeroℚ) (sym (rw e at (dot_from-value zeroℚ costs ray) ∙ zero-+ℚ (dot costs ray))) h)

-- ---- all of it

sums_fit : (program : Program) (ray : List ℚ) → RowsFit program.rows ray → (¬ IsErr (dot_from zeroℚ program.costs ray)) → RaySumsFit program ray
sums_fit program ray h k (AtRow number) o = h number o
sums_fit program ray h k Cost o = k o

-- what the tests of a ray say
pub shown_from_tests : (program : Program) (point ray : List ℚ) → length program.bounds ≡ length ray → length program.integral ≡ length ray → verdict_of program point ≡ Feasible (cost_of program point) → all_stay program.bounds ray ≡ true → all_still program.integral ray ≡ true → rows_stay program.rows ray ≡ true → cost_falls (dot_from zeroℚ program.costs ray) ≡ true → IsShownRay program point ray
shown_from_tests program point ray e f v b w r c =
    let rows = rows_stay_says program.rows ray r in
    let cost = cost_falls_says program.costs ray (dot_from zeroℚ program.costs ray) refl c in
    record {
      feasible = v;
      is_ray = record {
        within = all_stay_says program.bounds ray e b;
        still = all_still_says program.integral ray f w;
        rows = rows.0;
        falls = cost.0;
      };
      fits = sums_fit program ray rows.1 cost.1;
    }

-- and where it is shown, they all hold
pub bounds_test : (program : Program) (point ray : List ℚ) → IsShownRay program point ray → all_stay program.bounds ray ≡ true
bounds_test program point ray h = all_stay_from program.bounds ray h.is_ray.within

pub wholes_test : (program : Program) (point ray : List ℚ) → IsShownRay program point ray → all_still program.integral ray ≡ true
wholes_test program point ray h = all_still_from program.integral ray h.is_ray.still

pub rows_test : (program : Program) (point ray : List ℚ) → IsShownRay program point ray → rows_stay program.rows ray ≡ true
rows_test program point ray h = rows_stay_from program.rows ray h.is_ray.rows (λ number. h.fits (AtRow number))

pub cost_test : (program : Program) (point ray : List ℚ) → IsShownRay program point ray → cost_falls (dot_from zeroℚ program.costs ray) ≡ true
cost_test program point ray h = cost_falls_from program.costs ray (dot_from zeroℚ program.costs ray) refl h.is_ray.falls (h.fits Cost)

-- ---- along the ray

whole_kept : (integral : List Bool) (point ray : List ℚ) (far : ℚ) → AreWhole integral point → AreStill integral ray → AreWhole integral (moved point far ray)
whole_kept [] [] [] far h k = tt
whole_kept [] [] (c ∷ cs) far h k = absurd k
whole_kept [] (v ∷ vs) ray far h k = absurd h
whole_kept (w ∷ ws) [] ray far h k = absurd h
whole_kept (w ∷ ws) (v ∷ vs) [] far h k = absurd k
whole_kept (w ∷ ws) (v ∷ vs) (c ∷ cs) far h k = (
  λ e. let same : v +ℚ far *ℚ c ≡ v = ap (λ t. v +ℚ far *ℚ t) (k.0 e) ∙ (ap (λ t. v +ℚ t) (*ℚ-zero far) ∙ +ℚ-zero v) in subst IsWhole (sym same) (h.0 e),
  whole_kept ws vs cs far h.1 k.1,
)

-- ---- values that the choices allow

-- a column stays between the sides of an open choice only where it doesn't change
pub still_open : (own : Sides) (change : ℚ) → StaysBetween (open_sides own).low (open_sides own).high change → change ≡ zeroℚ
still_open own change h = ≤ℚ_antisymm (not_up own.high h.not_up) h.not_down
  where
    not_up : (high : Option ℚ) → IfSome (greater (Some zeroℚ) high) (λ _. change ≤ℚ zeroℚ) → change ≤ℚ zeroℚ
    not_up None k = k
    not_up (Some side) k = k

-- the change of a column stays between its sides
stays_at : (box : List Sides) (ray : List ℚ) (column : ℕ) → KeepsBounds box ray → StaysBetween (sides_at box column).low (sides_at box column).high (value_at ray column)
stays_at [] ray column h = record { not_down = tt; not_up = tt }
stays_at (s ∷ ss) [] column h = absurd h
stays_at (s ∷ ss) (c ∷ cs) zero h = h.0
stays_at (s ∷ ss) (c ∷ cs) (suc column) h = stays_at ss cs column h.1

-- where a column doesn't change, its value is the same
value_kept : (box : List Sides) (point ray : List ℚ) (far : ℚ) (column : ℕ) → IsInBox box point → KeepsBounds box ray → value_at ray column ≡ zeroℚ → value_at (moved point far ray) column ≡ value_at point column
value_kept [] [] [] far column h k e = refl
value_kept [] [] (c ∷ cs) far column h k e = absurd k
value_kept [] (v ∷ vs) ray far column h k e = absurd h
value_kept (s ∷ ss) [] ray far column h k e = absurd h
value_kept (s ∷ ss) (v ∷ vs) [] far column h k e = absurd k
value_kept (s ∷ ss) (v ∷ vs) (c ∷ cs) far zero h k e = ap (λ t. v +ℚ far *ℚ t) e ∙ (ap (λ t. v +ℚ t) (*ℚ-zero far) ∙ +ℚ-zero v)
value_kept (s ∷ ss) (v ∷ vs) (c ∷ cs) far (suc column) h k e = value_kept ss vs cs far column h.1 k.1 e

choice_kept : (program : Program) (point ray : List ℚ) (far : ℚ) (column : ℕ) (choice : Choice) → IsInBox program.bounds point → KeepsBounds program.bounds ray → IsChoice choice (slice_get program.integral column) (sides_at program.bounds column) → Allows choice (value_at point column) → Allows choice (value_at (moved point far ray) column)
choice_kept program point ray far column Plain h k f a = tt
choice_kept program point ray far column (Open own) h k f a =
    let still = still_open own (value_at ray column) (subst (λ (s : Sides). StaysBetween s.low s.high (value_at ray column)) f.open_ (stays_at program.bounds ray column k)) in
    subst (Allows (Open own)) (sym (value_kept program.bounds point ray far column h k still)) a
choice_kept program point ray far column Off h k f a = tt
choice_kept program point ray far column On h k f a = tt

choices_kept : (program : Program) (point ray : List ℚ) (far : ℚ) → IsWellFormed program → IsFeasible program point → KeepsBounds program.bounds ray → KeepsChoices program.choices (moved point far ray)
choices_kept program point ray far formed h k column =
    choice_kept program point ray far column (choice_at program.choices column) h.within k (formed.choices column) (h.choices column)

abbrev relaxed : Program → LinearProgram
relaxed program = record { rows = program.rows; bounds = program.bounds; costs = program.costs }

pub falls_along : (program : Program) (point ray : List ℚ) → IsWellFormed program → IsFeasible program point → IsRay program ray → FallsWithoutEnd program point ray
falls_along program point ray formed h k =
    let p : IsPoint (relaxed program) point = record { within = h.within; rows = h.rows } in
    let r : IsLinearRay (relaxed program) ray = record { within = k.within; rows = k.rows; falls = k.falls } in
    record {
      points = λ far f. (let m = ray_points (relaxed program) point ray far p r f in record { within = m.within; whole = whole_kept program.integral point ray far h.whole k.still; choices = choices_kept program point ray far formed h k.within; rows = m.rows });
      cost = λ far. ap (λ t. program.constant +ℚ t) (ray_cost (relaxed program) point ray far) ∙ sym (+ℚ_assoc program.constant (dot program.costs point) (far *ℚ dot program.costs ray));
      falls = k.falls;
    }

-- ---- each way that the test may end

module _ (program : Program) (point ray : List ℚ) where
  no_ray : IsShownRay program point ray → (t : Bool) → (IsShownRay program point ray → t ≡ true) → t ≡ false → ⊥
  no_ray h t f e = true≢false (sym (f h) ∙ e)

  pub bounds_broken : (box : List Sides) → box ≡ program.bounds → all_stay box ray ≡ false → ¬ IsShownRay program point ray
  bounds_broken box b e h = no_ray h (all_stay box ray) (λ h. rw b (bounds_test program point ray h)) e

  pub wholes_broken : (integral : List Bool) → integral ≡ program.integral → all_still integral ray ≡ false → ¬ IsShownRay program point ray
  wholes_broken integral b e h = no_ray h (all_still integral ray) (λ h. rw b (wholes_test program point ray h)) e

  pub rows_broken : (rows : List Row) → rows ≡ program.rows → rows_stay rows ray ≡ false → ¬ IsShownRay program point ray
  rows_broken rows b e h = no_ray h (rows_stay rows ray) (λ h. rw b (rows_test program point ray h)) e

  pub cost_kept : (costs : List ℚ) → costs ≡ program.costs → IsShownRay program point ray → cost_falls (dot_from zeroℚ costs ray) ≡ true
  cost_kept costs b h = rw b (cost_test program point ray h)

  pub feasible_along : IsWellFormed program → IsFeasible program point → IsShownRay program point ray → FallsWithoutEnd program point ray
  feasible_along formed h k = falls_along program point ray formed h k.is_ray

  pub shown_by : (cost : ℚ) → IsWellFormed program → length ray ≡ columns program → verdict_of program point ≡ Feasible cost → VerdictHolds program point (Feasible cost) → all_stay program.bounds ray ≡ true → all_still program.integral ray ≡ true → rows_stay program.rows ray ≡ true → cost_falls (dot_from zeroℚ program.costs ray) ≡ true → IsShownRay program point ray
  shown_by cost formed long v h =
      shown_from_tests program point ray (formed.bounds ∙ sym long) (formed.integral ∙ sym long) (v ∙ ap Feasible h.1)

pub shown_rays_fall : ShownRaysFall
shown_rays_fall program point ray formed long shown =
    let verdict : VerdictHolds program point (Feasible (cost_of program point)) = subst (VerdictHolds program point) shown.feasible (verdict_holds program point formed long) in
    feasible_along program point ray formed verdict.0 shown
