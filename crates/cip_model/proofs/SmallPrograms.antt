-- Programs with small whole numbers: no sum of a check or of the box bound overflows.
--     IsSmall program, small_can_check, small_least_cost
use Rattle.std.specs.Prelude.{◌≡◌, ◌≢◌, ⊤, IfSome, ◌≤ℤ◌, ℕ, zero, suc, ◌+◌, ◌*◌, ◌^◌, ◌≤◌, Bool, true, false, List, [], ◌∷◌, length, ℤ, pos, Option, None, Some, Result, Ok, Err, if◌then◌else◌}
use Rattle.std.specs.List.{AllByRecursion}
use Rattle.std.proofs.Common.{sym, arith, subst}
use Rattle.std.proofs.lemmas.Int.{ints}
use Rattle.cip_rational.specs.Rational.{ℚ, ◌≤ℚ◌, zeroℚ, integer, numerator, IsWhole, lt_test}
use Rattle.cip_rational.proofs.Rational.Whole.{whole_is}
use Rattle.cip_rational.proofs.Rational.Rounding.{le_integer, integer-zero}
use Rattle.cip_rational.specs.Range.{largest, magnitude}
use Rattle.cip_frac.specs.declared.operations.Wide.{Wide as Overflow}
use Rattle.cip_frac.specs.Order.{same_rational}
use Rattle.cip_problem.specs.Program.{Term, Sides, Row, Program}
use Rattle.cip_problem.specs.Activity.{value_at}
use Rattle.cip_problem.specs.Box.{Between, IsInBox, is_between}
use Rattle.cip_problem.specs.Points.{AreWhole}
use Rattle.cip_problem.specs.Limits.{most_columns}
use Rattle.cip_frac.specs.Outcomes.{product_added}
use Rattle.cip_frac.proofs.WholeSizes.{IsWithin, IsOkWithin, zero_within, more_within, within_added, within_dot}
use Rattle.cip_lin.proofs.ActivitySizes.{TermsWithin, within_activity}
use Rattle.cip_lin.specs.RowSums.{activity_from, least_added, least_then, least_of}
use Rattle.cip_lin.specs.declared.outcomes.Least.{Least}
use Rattle.cip_lin.specs.declared.outcomes.Least.TheVariants.{Value, NoBound, Wide as TooWide}
use Rattle.cip_model.specs.declared.verdicts.Place.{Place}
use Rattle.cip_model.specs.declared.verdicts.Verdict.{Verdict}
use Rattle.cip_model.specs.declared.verdicts.Verdict.TheVariants.{Feasible, BreaksBound, BreaksWhole, BreaksRow, Wide}
use Rattle.cip_model.specs.Verdicts.{verdict_of, first_outside, first_not_whole, first_broken, row_verdict, cost_verdict, or_else, from_rows, from_wholes, from_bounds}
use Rattle.cip_model.specs.Least.{column_added, least_cost_from}
use Rattle.cip_model.specs.CanCheck.{CanCheck}

-- the size of a value, at most
abbrev pub few : ℕ
few = 10 ^ 9

-- the sides of a column are 0 and a whole number
pub record HasSmallSides (sides : Sides) : Type 0 where
  pub low : sides.low ≡ Some zeroℚ
  pub side : ℚ
  pub high : sides.high ≡ Some side
  pub within : IsWithin few side

-- a row has no more terms than a program columns, of small whole coefficients
pub record HasSmallTerms (row : Row) : Type 0 where
  pub short : length row.terms ≤ most_columns
  pub coefficients : AllByRecursion (λ t. IsWithin few t.coefficient) row.terms

-- all numbers of a program are whole and small
pub record IsSmall (program : Program) : Type 0 where
  pub rows : AllByRecursion HasSmallTerms program.rows
  pub costs : AllByRecursion (IsWithin few) program.costs
  pub constant : program.constant ≡ zeroℚ
  pub columns : length program.costs ≤ most_columns
  pub bounds : AllByRecursion HasSmallSides program.bounds
  pub whole : AllByRecursion (λ whole. whole ≡ true) program.integral

-- ---- the values of a point

magnitude_le : (y z : ℤ) (n : ℕ) → pos 0 ≤ℤ y → y ≤ℤ z → magnitude z ≤ n → magnitude y ≤ n
magnitude_le y z n p q h = omega (arith, ints, p, q, h)

-- a whole value between 0 and a small side is small
between_within : (sides : Sides) (value : ℚ) → HasSmallSides sides → Between sides.low sides.high value → IsWhole value → IsWithin few value
between_within sides value s b w =
    let e : value ≡ integer (numerator value) = whole_is value w in
    let low : zeroℚ ≤ℚ value = subst (λ o. IfSome o (λ side. side ≤ℚ value)) s.low b.above in
    let high : value ≤ℚ s.side = subst (λ o. IfSome o (λ side. value ≤ℚ side)) s.high b.below in
    let p : pos 0 ≤ℤ numerator value = le_integer (pos 0) (numerator value) (rw (integer-zero, ← e) low) in
    let q : numerator value ≤ℤ s.within.number = le_integer (numerator value) s.within.number (rw (← e, ← s.within.is_number) high) in
    record { number = numerator value; is_number = e; within = magnitude_le (numerator value) s.within.number few p q s.within.within }

values_within : (box : List Sides) (integral : List Bool) (point : List ℚ) → AllByRecursion HasSmallSides box → AllByRecursion (λ whole. whole ≡ true) integral → IsInBox box point → AreWhole integral point → AllByRecursion (IsWithin few) point
values_within [] integral [] s t b w = tt
values_within [] integral (v ∷ vs) s t b w = absurd b
values_within (x ∷ xs) integral [] s t b w = absurd b
values_within (x ∷ xs) [] (v ∷ vs) s t b w = absurd w
values_within (x ∷ xs) (i ∷ is) (v ∷ vs) s t b w =
    (between_within x v s.0 b.0 (w.0 t.0), values_within xs is vs s.1 t.1 b.1 w.1)

value_within : (point : List ℚ) (k : ℕ) → AllByRecursion (IsWithin few) point → IsWithin few (value_at point k)
value_within [] k h = zero_within few
value_within (v ∷ vs) zero h = h.0
value_within (v ∷ vs) (suc k) h = value_within vs k h.1

terms_within : (terms : List Term) (point : List ℚ) → AllByRecursion (λ t. IsWithin few t.coefficient) terms → AllByRecursion (IsWithin few) point → TermsWithin few few terms point
terms_within [] point c h = tt
terms_within (t ∷ ts) point c h = ((c.0, value_within point t.column h), terms_within ts point c.1 h)

-- ---- the verdict

-- a verdict, if any, is not `Wide`
abbrev IsNotWide : Verdict → Type 0
IsNotWide (Feasible c) = ⊤
IsNotWide (BreaksBound col) = ⊤
IsNotWide (BreaksWhole col) = ⊤
IsNotWide (BreaksRow row value) = ⊤
IsNotWide (Wide place) = ⊥

abbrev IsNoneWide : Option Verdict → Type 0
IsNoneWide None = ⊤
IsNoneWide (Some verdict) = IsNotWide verdict

row_not_wide : (n at : ℕ) (row : Row) (r : Result ℚ Overflow) → IsOkWithin n r → IsNoneWide (row_verdict at row r)
row_not_wide n at row (Err overflow) h = absurd h
row_not_wide n at row (Ok value) h = by_test (is_between row.low row.high value)
  where
    by_test : (b : Bool) → IsNoneWide (if b then None else Some (BreaksRow at value))
    by_test true = tt
    by_test false = tt

either_not_wide : (a b : Option Verdict) → IsNoneWide a → IsNoneWide b → IsNoneWide (or_else a b)
either_not_wide None b p q = q
either_not_wide (Some v) b p q = p

rows_not_wide : (at : ℕ) (rows : List Row) (point : List ℚ) → AllByRecursion HasSmallTerms rows → AllByRecursion (IsWithin few) point → IsNoneWide (first_broken at rows point)
rows_not_wide at [] point s h = tt
rows_not_wide at (row ∷ rows) point s h =
    let short : length row.terms ≤ most_columns = s.0.short in
    either_not_wide (row_verdict at row (activity_from zeroℚ row.terms point)) (first_broken (at + 1) rows point)
    (row_not_wide (0 + length row.terms * (few * few)) at row (activity_from zeroℚ row.terms point)
    (within_activity 0 few few zeroℚ row.terms point (zero_within 0) (terms_within row.terms point s.0.coefficients h) (omega (arith, short))))
    (rows_not_wide (at + 1) rows point s.1 h)

cost_not_wide : (n : ℕ) (r : Result ℚ Overflow) → IsOkWithin n r → IsNotWide (cost_verdict r)
cost_not_wide n (Ok q) h = tt
cost_not_wide n (Err wide) h = absurd h

not_wide_rows : (o : Option Verdict) (v : Verdict) → IsNoneWide o → IsNotWide v → IsNotWide (from_rows o v)
not_wide_rows None v p q = q
not_wide_rows (Some w) v p q = p

not_wide_wholes : (o : Option ℕ) (v : Verdict) → IsNotWide v → IsNotWide (from_wholes o v)
not_wide_wholes None v q = q
not_wide_wholes (Some c) v q = tt

not_wide_bounds : (o : Option ℕ) (v : Verdict) → IsNotWide v → IsNotWide (from_bounds o v)
not_wide_bounds None v q = q
not_wide_bounds (Some c) v q = tt

is_wide : (v : Verdict) (place : Place) → IsNotWide v → v ≢ Wide place
is_wide v place h e = subst IsNotWide e h

-- no sum of a check overflows
pub small_can_check : (program : Program) → IsSmall program → CanCheck program
small_can_check program s point place b w =
    let values : AllByRecursion (IsWithin few) point = values_within program.bounds program.integral point s.bounds s.whole b w in
    let columns : length program.costs ≤ most_columns = s.columns in
    is_wide (verdict_of program point) place
    (not_wide_bounds (first_outside 0 program.bounds program.choices point) _
    (not_wide_wholes (first_not_whole 0 program.integral point) _
    (not_wide_rows (first_broken 0 program.rows point) _ (rows_not_wide 0 program.rows point s.rows values)
    (cost_not_wide _ _ (within_dot 0 few few program.constant program.costs point (subst (IsWithin 0) (sym s.constant) (zero_within 0)) s.costs values (omega (arith, columns)))))))

-- ---- the box bound

abbrev IsValueWithin : ℕ → Least → Type 0
IsValueWithin n (Value q) = IsWithin n q
IsValueWithin n NoBound = ⊥
IsValueWithin n TooWide = ⊥

of_ok : (n : ℕ) (r : Result ℚ Overflow) → IsOkWithin n r → IsValueWithin n (least_of r)
of_ok n (Ok q) h = h
of_ok n (Err wide) h = h

side_is : (cost : ℚ) (sides : Sides) (s : HasSmallSides sides) (b : Bool) → (side : ℚ) × ((if b then sides.high else sides.low) ≡ Some side) × IsWithin few side
side_is cost sides s true = (s.side, s.high, s.within)
side_is cost sides s false = (zeroℚ, s.low, zero_within few)

least_added_within : (k : ℕ) (sum cost : ℚ) (sides : Sides) → IsWithin k sum → IsWithin few cost → HasSmallSides sides → k + few * few ≤ largest → IsValueWithin (k + few * few) (least_added sum cost sides)
least_added_within k sum cost sides r c s l =
    let side = side_is cost sides s (lt_test cost zeroℚ) in
    rw side.1 (of_ok (k + few * few) (product_added sum cost side.0) (within_added k few few sum cost side.0 r c side.2 l))

by_cost : (n : ℕ) (sum : ℚ) (added : Least) (b : Bool) → IsWithin n sum → IsValueWithin n added → IsValueWithin n (if b then Value sum else added)
by_cost n sum added true h f = h
by_cost n sum added false h f = f

column_within : (k : ℕ) (sum cost : ℚ) (sides : Sides) → IsWithin k sum → IsWithin few cost → HasSmallSides sides → k + few * few ≤ largest → IsValueWithin (k + few * few) (column_added sum cost sides)
column_within k sum cost sides r c s l =
    by_cost (k + few * few) sum (least_added sum cost sides) (same_rational cost zeroℚ) (more_within k (k + few * few) sum (omega arith) r) (least_added_within k sum cost sides r c s l)

then_least : (n : ℕ) (r : Least) (m : ℕ) (next : ℚ → Least) → IsValueWithin m r → ((q : ℚ) → IsWithin m q → IsValueWithin n (next q)) → IsValueWithin n (least_then r next)
then_least n (Value q) m next h f = f q h
then_least n NoBound m next h f = absurd h
then_least n TooWide m next h f = absurd h

least_within_from : (k : ℕ) (sum : ℚ) (costs : List ℚ) (box : List Sides) → IsWithin k sum → AllByRecursion (IsWithin few) costs → AllByRecursion HasSmallSides box → k + length costs * (few * few) ≤ largest → IsValueWithin (k + length costs * (few * few)) (least_cost_from sum costs box)
least_within_from k sum [] box r c s l = subst (λ j. IsWithin j sum) (omega arith) r
least_within_from k sum (cost ∷ costs) [] r c s l = more_within k _ sum (omega arith) r
least_within_from k sum (cost ∷ costs) (sides ∷ others) r c s l =
    let e : k + few * few + length costs * (few * few) ≡ k + suc (length costs) * (few * few) = omega arith in
    subst (λ j. IsValueWithin j (least_cost_from sum (cost ∷ costs) (sides ∷ others))) e
    (then_least (k + few * few + length costs * (few * few)) (column_added sum cost sides) (k + few * few) (λ more. least_cost_from more costs others)
    (column_within k sum cost sides r c.0 s.0 (omega (arith, l, e)))
    (λ q w. least_within_from (k + few * few) q costs others w c.1 s.1 (omega (arith, l, e))))

not_wide_least : (n : ℕ) (r : Least) → IsValueWithin n r → r ≢ TooWide
not_wide_least n r h e = subst (IsValueWithin n) e h

-- the box bound does not overflow
pub small_box_bound : (program : Program) → IsSmall program → least_cost_from program.constant program.costs program.bounds ≢ TooWide
small_box_bound program s =
    let columns : length program.costs ≤ most_columns = s.columns in
    not_wide_least _ _ (least_within_from 0 program.constant program.costs program.bounds (subst (IsWithin 0) (sym s.constant) (zero_within 0)) s.costs s.bounds (omega (arith, columns)))
