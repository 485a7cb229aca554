-- Columns that go where they cost least, with those that follow them by their forms: for each column the value that it
-- goes to, if it moves.
use Rattle.std.specs.Prelude.{◌≡◌, ◌⊎◌, ℕ, ◌<◌, Bool, true, List, Option, None, Some, length, slice_get, slice_index_or, if◌then◌else◌}
use Rattle.cip_rational.specs.Rational.{ℚ, ◌+ℚ◌, ◌*ℚ◌, zeroℚ, ◌≤ℚ◌, IsWhole}
use Rattle.cip_problem.specs.Program.{Program}
use Rattle.cip_problem.specs.Activity.{value_at}
use Rattle.cip_problem.specs.Box.{Between, sides_at}
use Rattle.cip_problem.specs.Cuts.{rounded_low, rounded_high}
use Rattle.cip_search.specs.Forms.{Form}
use Rattle.cip_search.specs.Moving.{fixed_sides, CanTake}
use Rattle.cip_presolve.specs.ColumnsOut.{IsIn}
use Rattle.cip_presolve.specs.FreeColumns.{turned, RowsFree}

-- the least value that a low side leaves a column, and the greatest that a high side does, whole where the column is
abbrev pub least_value : Bool → Option ℚ → Option ℚ
least_value whole low = if whole then rounded_low low else low

abbrev pub greatest_value : Bool → Option ℚ → Option ℚ
greatest_value whole high = if whole then rounded_high high else high

-- a value that a column may have by itself
pub record CanBe (program : Program) (column : ℕ) (value : ℚ) : Type 0 where
  pub between : Between (sides_at program.bounds column).low (sides_at program.bounds column).high value
  pub whole : slice_get program.integral column ≡ Some true → IsWhole value

-- a column goes to a value: it is free to fall, or to rise, the value is the last one on this way, and it costs no more
-- there
pub record MovesTo (rising : Bool) (free : List Bool) (program : Program) (column : ℕ) (value : ℚ) : Type 0 where
  pub lets : slice_get free column ≡ Some true
  pub takes : CanTake program column value
  pub cost : zeroℚ ≤ℚ turned rising (value_at program.costs column)
  pub last : (other : ℚ) → CanBe program column other → turned rising value ≤ℚ turned rising other

-- the value that a column goes to by a plan; `None` where it doesn't move
abbrev pub target_at : List (Option ℚ) → ℕ → Option ℚ
target_at plan column = slice_index_or plan column None

-- a column with a form follows its source: it goes to the form's value there
pub record IsCarried (targets : List (Option ℚ)) (form : Form) (target : Option ℚ) : Type 0 where
  pub value : ℚ
  pub source : target_at targets form.source ≡ Some value
  pub nonzero : ¬ (form.factor ≡ zeroℚ)
  pub is : target ≡ Some (form.constant +ℚ form.factor *ℚ value)

-- or it stays, as its source does
pub record IsLeft (targets : List (Option ℚ)) (form : Form) (target : Option ℚ) : Type 0 where
  pub stays : target ≡ None
  pub source : (form.factor ≡ zeroℚ) ⊎ (target_at targets form.source ≡ None)

abbrev pub Follows : List (Option ℚ) → Form → Option ℚ → Type 0
Follows targets form target = IsLeft targets form target ⊎ IsCarried targets form target

-- each column's target is one that it may go to by itself
pub record AreTargets (rising : Bool) (free : List Bool) (program : Program) (targets : List (Option ℚ)) : Type 0 where
  pub long : length targets ≡ length program.bounds
  pub each : (column : ℕ) (value : ℚ)
      → target_at targets column ≡ Some value → MovesTo rising free program column value

-- what a plan has for a column: its own target, or where it has a form, what follows from that of its source
abbrev pub IsEntry : List (Option ℚ) → Option Form → ℕ → Option ℚ → Type 0
IsEntry targets None column target = target ≡ target_at targets column
IsEntry targets (Some form) column target = Follows targets form target

pub record AreEntries (forms : List (Option Form)) (targets plan : List (Option ℚ)) : Type 0 where
  pub long : length plan ≡ length forms
  pub each : (column : ℕ) → column < length forms
      → IsEntry targets (slice_index_or forms column None) column (target_at plan column)

-- a plan: columns that have no form go where they cost least, and those that have one follow their sources
pub record IsPlan (rising : Bool) (free : List Bool) (program : Program) (forms : List (Option Form))
    (plan : List (Option ℚ)) : Type 0 where
  pub long : length plan ≡ length program.bounds
  pub moves : (column : ℕ) (value : ℚ)
      → IsIn forms column → target_at plan column ≡ Some value → MovesTo rising free program column value
  pub follows : (column : ℕ) (form : Form)
      → slice_get forms column ≡ Some (Some form) → Follows plan form (target_at plan column)

-- beside that no row keeps its columns from moving so
pub record IsPlanned (rising : Bool) (program : Program) (forms : List (Option Form))
    (plan : List (Option ℚ)) : Type 0 where
  pub free : List Bool
  pub rows : RowsFree rising free forms program.rows
  pub is : IsPlan rising free program forms plan

-- the columns that move have their values as both sides, and nothing else is changed
pub record IsTaken (plan : List (Option ℚ)) (program changed : Program) : Type 0 where
  pub same : changed ≡ record program { bounds = changed.bounds }
  pub long : length changed.bounds ≡ length program.bounds
  pub moved : (column : ℕ) (value : ℚ) → column < length program.bounds
      → target_at plan column ≡ Some value → sides_at changed.bounds column ≡ fixed_sides value
  pub stays : (column : ℕ) → target_at plan column ≡ None
      → sides_at changed.bounds column ≡ sides_at program.bounds column
