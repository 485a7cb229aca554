-- The main laws, each as one statement: the functions of `src/lib.rt` have them as contracts.
use Rattle.std.specs.Prelude.{◌≡◌, ◌≢◌, ℕ, ◌<◌, Bool, true, List, length, Option, Some, slice_get}
use Rattle.cip_rational.specs.Rational.{ℚ, ◌+ℚ◌, ◌*ℚ◌, zeroℚ, IsWhole}
use Rattle.cip_problem.specs.Program.{Sides, Row, Program, no_row}
use Rattle.cip_problem.specs.WellFormed.{IsWellFormed}
use Rattle.cip_problem.specs.Activity.{value_at}
use Rattle.cip_problem.specs.Box.{Between, sides_at, sides_inside}
use Rattle.cip_problem.specs.Points.{IsSatisfied, IsFeasible}
use Rattle.cip_problem.specs.Cuts.{IsCrossed}
use Rattle.cip_problem.specs.Reduced.{IsRelaxed, IsReduction}
use Rattle.cip_search.specs.SearchState.{IsWayBack}
use Rattle.cip_search.specs.NarrowedPrograms.{AllSatisfied, IsStep, IsExactStep, IsInfeasible, with_row, with_sides, with_cost}
use Rattle.cip_search.specs.Forms.{Form, form_value, spread, gathered, kept_at, kept_from}
use Rattle.cip_search.specs.Pairs.{IsWholeIn, IsPair, IsExactPair}
use Rattle.cip_search.specs.Compacting.{IsCompacted, AreLeft, rows_left}
use Rattle.cip_search.specs.RowSteps.{HoldsInAll, HoldsNowhere, divided_sides, IsShifted, merged_row}
use Rattle.cip_search.specs.Moving.{fixed_sides, CanFallTo, CanRiseTo}
use Rattle.cip_search.specs.Equalities.{two_terms, equality_form, IsEquality, IsLessMultiple, EndsKeep, EndsAssign}
use Rattle.cip_search.specs.WholeParts.{way_of}

-- steps follow one another, each exact step is a step, and where no point is feasible after a step, none was before
pub record StepsFollow : Type 0 where
  pub itself : (program : Program) → IsExactStep program program
  pub weaker : (program tightened : Program) → IsExactStep program tightened → IsStep program tightened
  pub after : (first second third : Program) → IsStep first second → IsStep second third → IsStep first third
  pub exact_after : (first second third : Program)
      → IsExactStep first second → IsExactStep second third → IsExactStep first third
  pub infeasible : (program tightened : Program)
      → IsStep program tightened → IsInfeasible tightened → IsInfeasible program

-- a step is a pair of which nothing changes, and an exact step an exact pair; pairs follow one another
pub record PairsFollow : Type 0 where
  pub step : (program tightened : Program)
      → IsStep program tightened → IsPair program tightened (λ point. point) (λ column. column)
  pub exact_step : (program tightened : Program)
      → IsExactStep program tightened → IsExactPair program tightened (λ point. point) (λ column. column)
  pub after : (first second third : Program) (post more : List ℚ → List ℚ) (kept later : ℕ → ℕ)
      → IsPair first second post kept → IsPair second third more later
      → IsPair first third (λ point. post (more point)) (λ column. kept (later column))
  pub exact_after : (first second third : Program) (post more : List ℚ → List ℚ) (kept later : ℕ → ℕ)
      → IsExactPair first second post kept → IsExactPair second third more later
      → IsExactPair first third (λ point. post (more point)) (λ column. kept (later column))

-- of a pair of well-formed programs the reduced one may be solved in place of the other, and searched for it
pub record PairsLeadBack : Type 0 where
  pub reduction : (program reduced : Program) (post : List ℚ → List ℚ) (kept : ℕ → ℕ)
      → IsWellFormed program → IsWellFormed reduced → IsPair program reduced post kept
      → IsReduction program reduced post
  pub way_back : (program reduced : Program) (post : List ℚ → List ℚ) (kept : ℕ → ℕ)
      → IsWellFormed program → IsWellFormed reduced → IsPair program reduced post kept
      → IsWayBack program reduced (way_of program reduced post)

-- a compacted program and the one that it was are an exact pair; rows that stand on columns that stay hold at a point
-- that comes back where those numbered anew do, and the other way round; and the list of old numbers is that of the
-- pair
pub record CompactedIsExact : Type 0 where
  pub pair : (program compacted : Program) (forms : List (Option Form))
      → IsWellFormed program → IsCompacted program compacted forms
      → IsExactPair program compacted (spread forms) (kept_at forms)
  pub back : (compacted : Program) (forms : List (Option Form)) (stays : List Bool) (rows : List Row) (point : List ℚ)
      → AreLeft compacted forms stays rows → IsRelaxed compacted point
      → AllSatisfied (rows_left forms stays rows) point → AllSatisfied rows (spread forms point)
  pub onward : (compacted : Program) (forms : List (Option Form)) (stays : List Bool) (rows : List Row) (point : List ℚ)
      → AreLeft compacted forms stays rows
      → AllSatisfied rows (spread forms point) → AllSatisfied (rows_left forms stays rows) point
  pub numbers : (forms : List (Option Form)) (entries : List Sides) (number : ℕ) (entry : Sides)
      → slice_get (gathered forms entries) number ≡ Some entry
      → slice_get (kept_from 0 forms) number ≡ Some (kept_at forms number)

-- steps by rows: one that holds at each point of the bounds is dropped, and where one holds at none no point is
-- feasible; one that says of a column what new sides say becomes these; two rows with equal terms become one
pub record RowsAreReplaced : Type 0 where
  pub dropped : (program : Program) (number : ℕ) (row : Row)
      → slice_get program.rows number ≡ Some row → HoldsInAll program.bounds row
      → IsExactStep program (with_row program number no_row)
  pub broken : (program : Program) (number : ℕ) (row : Row)
      → slice_get program.rows number ≡ Some row → HoldsNowhere program.bounds row → IsInfeasible program
  pub single : (program : Program) (number : ℕ) (row : Row) (column : ℕ) (sides : Sides)
      → slice_get program.rows number ≡ Some row → column < length program.bounds
      → sides_inside sides (sides_at program.bounds column) ≡ true
      → ((point : List ℚ) → IsFeasible program point → Between sides.low sides.high (value_at point column))
      → ((point : List ℚ) → Between sides.low sides.high (value_at point column) → IsSatisfied row point)
      → IsExactStep program (with_row (with_sides program column sides) number no_row)
  pub merged : (program : Program) (first second : ℕ) (row other : Row)
      → first ≢ second → slice_get program.rows first ≡ Some row → slice_get program.rows second ≡ Some other
      → row.terms ≡ other.terms
      → IsExactStep program (with_row (with_row program first (merged_row row other)) second no_row)

-- a value lies between the sides divided by a number other than 0 exactly where its product lies between the sides
pub record SidesDivide : Type 0 where
  pub divided : (c value : ℚ) (low high : Option ℚ)
      → ¬ (c ≡ zeroℚ) → Between low high (c *ℚ value)
      → Between (divided_sides c low high).low (divided_sides c low high).high value
  pub multiplied : (c value : ℚ) (low high : Option ℚ)
      → ¬ (c ≡ zeroℚ) → Between (divided_sides c low high).low (divided_sides c low high).high value
      → Between low high (c *ℚ value)

-- both sides of a column are this value
pub record IsFixedAt (program : Program) (column : ℕ) (value : ℚ) : Type 0 where
  pub low : (sides_at program.bounds column).low ≡ Some value
  pub high : (sides_at program.bounds column).high ≡ Some value

-- a column with equal sides leaves the rows, as their sides are moved, and the cost; where its low side is above the
-- high one, or it is whole and its value isn't, no point is feasible; sides that hold at each feasible point are taken
pub record ColumnsAreFixed : Type 0 where
  pub shifted : (program : Program) (number : ℕ) (old new : Row)
      → slice_get program.rows number ≡ Some old → IsShifted program.bounds old new
      → IsExactStep program (with_row program number new)
  pub recosted : (program : Program) (column : ℕ) (value : ℚ)
      → IsFixedAt program column value
      → IsExactStep program
      (with_cost program column zeroℚ (program.constant +ℚ value_at program.costs column *ℚ value))
  pub taken : (program : Program) (column : ℕ) (sides : Sides)
      → sides_inside sides (sides_at program.bounds column) ≡ true
      → ((point : List ℚ) → IsFeasible program point → Between sides.low sides.high (value_at point column))
      → IsExactStep program (with_sides program column sides)
  pub crossed : (program : Program) (column : ℕ) → IsCrossed (sides_at program.bounds column) → IsInfeasible program
  pub not_whole : (program : Program) (column : ℕ) (value : ℚ)
      → slice_get program.integral column ≡ Some true → IsFixedAt program column value → ¬ IsWhole value
      → IsInfeasible program

-- a column that no row holds goes to the side at which it costs least
pub record ColumnsMove : Type 0 where
  pub falls : (program : Program) (column : ℕ) (value : ℚ)
      → CanFallTo program column value → IsStep program (with_sides program column (fixed_sides value))
  pub rises : (program : Program) (column : ℕ) (value : ℚ)
      → CanRiseTo program column value → IsStep program (with_sides program column (fixed_sides value))

-- an equality of two terms holds exactly where the value of either column, whose coefficient isn't 0, is its form of
-- the other's; a row less a multiple of an equality stands for it beside that; and what a form is at the ends of its
-- source's sides says what it is between them
pub record EqualitiesTell : Type 0 where
  pub first_follows : (row : Row) (first second : ℕ) (a b d : ℚ) (point : List ℚ)
      → row.terms ≡ two_terms first a second b → IsEquality row d → ¬ (a ≡ zeroℚ)
      → IsSatisfied row point → value_at point first ≡ form_value (equality_form a b d second) point
  pub first_holds : (row : Row) (first second : ℕ) (a b d : ℚ) (point : List ℚ)
      → row.terms ≡ two_terms first a second b → IsEquality row d → ¬ (a ≡ zeroℚ)
      → value_at point first ≡ form_value (equality_form a b d second) point → IsSatisfied row point
  pub second_follows : (row : Row) (first second : ℕ) (a b d : ℚ) (point : List ℚ)
      → row.terms ≡ two_terms first a second b → IsEquality row d → ¬ (b ≡ zeroℚ)
      → IsSatisfied row point → value_at point second ≡ form_value (equality_form b a d first) point
  pub second_holds : (row : Row) (first second : ℕ) (a b d : ℚ) (point : List ℚ)
      → row.terms ≡ two_terms first a second b → IsEquality row d → ¬ (b ≡ zeroℚ)
      → value_at point second ≡ form_value (equality_form b a d first) point → IsSatisfied row point
  pub substituted : (program : Program) (number place : ℕ) (row equality new : Row) (value multiple : ℚ)
      → number ≢ place → slice_get program.rows number ≡ Some row → slice_get program.rows place ≡ Some equality
      → IsEquality equality value → IsLessMultiple row equality value multiple new
      → IsExactStep program (with_row program number new)
  pub keeps : (form : Form) (own outer : Sides) (value : ℚ)
      → EndsKeep form own outer → Between own.low own.high value
      → Between outer.low outer.high (form.constant +ℚ form.factor *ℚ value)
  pub assigns : (form : Form) (own outer : Sides) (value : ℚ)
      → EndsAssign form own outer → IsWhole value → Between own.low own.high value
      → IsWholeIn outer (form.constant +ℚ form.factor *ℚ value)

-- a row is replaced by one that says as much beside the other rows, as where an equality of two terms stands there
abbrev pub RowsStandFor : Type 0
RowsStandFor =
    (program : Program) (number : ℕ) (old new : Row)
    → slice_get program.rows number ≡ Some old
    → ((point : List ℚ) → IsRelaxed (with_row program number new) point → IsSatisfied old point)
    → ((point : List ℚ) → IsFeasible program point → IsSatisfied new point)
    → IsExactStep program (with_row program number new)
