-- Aggregated rows: the inequality that a sum of rows and bounds, each times a factor, implies, and what that implies
-- for costs and for single columns in a box (weak duality with bounds).
use Rattle.std.specs.Prelude.{◌≡◌, ℕ, ◌==◌, List, [], ◌∷◌, ◌++◌, map, length, replicate, Option, None, Some, if◌then◌else◌}
use Rattle.std.specs.List.{AllByRecursion, range_with_len}
use Rattle.cip_rational.specs.Rational.{ℚ, ◌+ℚ◌, ◌-ℚ◌, ◌*ℚ◌, inverse, zeroℚ, oneℚ, ◌≤ℚ◌, ◌<ℚ◌, lt_test}
use Rattle.cip_rational.specs.Sums.{dot}
use Rattle.cip_problem.specs.Program.{Term, Sides, Row}
use Rattle.cip_problem.specs.Activity.{activity, value_at}
use Rattle.cip_problem.specs.BoxBound.{sum_if_both, least_costs}

-- ---- parts

-- a row or a bound in a sum: its factor, its terms, and the side of it that is used
pub record Part : Type 0 where
  pub factor : ℚ
  pub terms : List Term
  pub side : ℚ

-- the side that a factor uses: the low one with a factor above 0, the high one with a factor below 0
abbrev pub used_side : ℚ → Option ℚ → Option ℚ → Option ℚ
used_side factor low high = if lt_test zeroℚ factor then low else (if lt_test factor zeroℚ then high else None)

-- a part is this row times its factor, and uses the side that this factor uses
pub record IsPartOf (row : Row) (part : Part) : Type 0 where
  pub terms : part.terms ≡ row.terms
  pub side : used_side part.factor row.low row.high ≡ Some part.side

-- the bounds of a column as a row: the column alone, between its sides
abbrev pub bound_row : ℕ → Sides → Row
bound_row column sides = record {
  terms = record { column = column; coefficient = oneℚ } ∷ [];
  low = sides.low;
  high = sides.high;
}

-- a part holds at a point: times the factor, the activity is at least the side
abbrev pub HoldsAt : Part → List ℚ → Type 0
HoldsAt part point = part.factor *ℚ part.side ≤ℚ part.factor *ℚ activity part.terms point

-- each part holds at a point
abbrev pub AllHoldAt : List Part → List ℚ → Type 0
AllHoldAt parts point = AllByRecursion (λ part. HoldsAt part point) parts

-- ---- the aggregated row

-- the sum of coefficients times values is at least a number; there is one coefficient for each column
pub record Inequality : Type 0 where
  pub coefficients : List ℚ
  pub least : ℚ

-- an inequality holds at a point
abbrev pub Holds : Inequality → List ℚ → Type 0
Holds row point = row.least ≤ℚ dot row.coefficients point

-- the sum of the activities, each times its factor
abbrev pub total_activity : List Part → List ℚ → ℚ
total_activity [] point = zeroℚ
total_activity (p ∷ ps) point = p.factor *ℚ activity p.terms point +ℚ total_activity ps point

-- the sum of the sides, each times its factor
abbrev pub total_side : List Part → ℚ
total_side [] = zeroℚ
total_side (p ∷ ps) = p.factor *ℚ p.side +ℚ total_side ps

-- an inequality is the sum of the parts: as linear forms, and so at every list of values, its left side is the sum of
-- their activities, and its right side the sum of their sides
pub record IsAggregate (columns : ℕ) (parts : List Part) (row : Inequality) : Type 0 where
  pub long : length row.coefficients ≡ columns
  pub form : (point : List ℚ) → dot row.coefficients point ≡ total_activity parts point
  pub least : row.least ≡ total_side parts

-- ---- the aggregated row as it is computed

-- the list of f 0, f 1, .., f (n - 1)
unfoldable pub table : {X : Type 0} → ℕ → (ℕ → X) → List X
table n f = map f (range_with_len 0 n)

-- the coefficient of a sum of terms on a column
abbrev pub coefficient_on : List Term → ℕ → ℚ
coefficient_on [] column = zeroℚ
coefficient_on (t ∷ ts) column = (if t.column == column then t.coefficient else zeroℚ) +ℚ coefficient_on ts column

-- the coefficient of the sum of the parts on a column
abbrev pub combined : List Part → ℕ → ℚ
combined [] column = zeroℚ
combined (p ∷ ps) column = p.factor *ℚ coefficient_on p.terms column +ℚ combined ps column

-- the sum of the parts on the first n columns
abbrev pub aggregate : ℕ → List Part → Inequality
aggregate n parts = record { coefficients = table n (combined parts); least = total_side parts }

-- ---- what an inequality implies in a box

-- the differences of entries at one place, where what is missing in either list counts as 0
abbrev pub differences : List ℚ → List ℚ → List ℚ
differences costs [] = costs
differences [] (d ∷ ds) = (zeroℚ -ℚ d) ∷ differences [] ds
differences (c ∷ cs) (d ∷ ds) = (c -ℚ d) ∷ differences cs ds

-- what costs come to at least, at a point of the box at which the inequality holds: its right side, and the least of
-- what the costs exceed its coefficients by; none where a side that this needs is open
abbrev pub bound_of : Inequality → List ℚ → List Sides → Option ℚ
bound_of row costs box = sum_if_both (Some row.least) (least_costs (differences costs row.coefficients) box)

-- costs come to this number at least, by that bound
pub record BoundsBy (row : Inequality) (costs : List ℚ) (box : List Sides) (b : ℚ) : Type 0 where
  pub bound : ℚ
  pub is_bound : bound_of row costs box ≡ Some bound
  pub stronger : b ≤ℚ bound

-- an inequality holds nowhere in the box: what costs of 0 come to at least is above 0
pub record Empties (row : Inequality) (box : List Sides) : Type 0 where
  pub bound : ℚ
  pub is_bound : bound_of row [] box ≡ Some bound
  pub positive : zeroℚ <ℚ bound

-- a cost on one column alone, where what is missing counts as 0
abbrev pub only : ℕ → ℚ → List ℚ
only column cost = replicate column zeroℚ ++ cost ∷ []

-- a quotient, where its dividend is there
abbrev pub quotient_of : Option ℚ → ℚ → Option ℚ
quotient_of None divisor = None
quotient_of (Some dividend) divisor = Some (dividend *ℚ inverse divisor)

-- what the inequality's own product on a column comes to at least in the box, divided by the coefficient there
abbrev pub single_bound : Inequality → List Sides → ℕ → Option ℚ
single_bound row box column =
    let coefficient : ℚ = value_at row.coefficients column in
    quotient_of (bound_of row (only column coefficient) box) coefficient

-- the sides that an inequality implies for a column in the box: a low one where its coefficient there is above 0,
-- a high one where it is below 0
abbrev pub implied_sides : Inequality → List Sides → ℕ → Sides
implied_sides row box column =
    let coefficient : ℚ = value_at row.coefficients column in
    record {
      low = if lt_test zeroℚ coefficient then single_bound row box column else None;
      high = if lt_test coefficient zeroℚ then single_bound row box column else None;
    }
