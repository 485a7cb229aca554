-- Split rows: a form that is whole is at most a whole number or at least the next one, and what holds on both sides of
-- that holds at each point whose whole columns are whole.
use Rattle.std.specs.Prelude.{◌≡◌, ℤ, pos, ◌+ℤ◌, Bool, true, List, Some, slice_get}
use Rattle.std.specs.List.{AllByRecursion}
use Rattle.cip_rational.specs.Rational.{ℚ, ◌+ℚ◌, ◌*ℚ◌, negate, integer, minimum, zeroℚ, ◌≤ℚ◌, IsWhole}
use Rattle.cip_rational.specs.Sums.{dot}
use Rattle.cip_problem.specs.Program.{Term}
use Rattle.cip_problem.specs.Activity.{activity}
use Rattle.cip_problem.specs.Aggregate.{Part, Inequality}

-- a term of a form: its coefficient is whole, and so is its column
pub record IsWholeTerm (integral : List Bool) (term : Term) : Type 0 where
  pub coefficient : IsWhole term.coefficient
  pub column : slice_get integral term.column ≡ Some true

-- each term of a form
abbrev pub IsWholeForm : List Bool → List Term → Type 0
IsWholeForm integral form = AllByRecursion (IsWholeTerm integral) form

-- a form, a whole number, and the factors with which its two sides are added to rows
pub record SplitForm : Type 0 where
  pub form : List Term
  pub at : ℤ
  pub left_factor : ℚ
  pub right_factor : ℚ

-- on the left the form is at most the number, which is minus the form at least minus the number
abbrev pub left_part : SplitForm → Part
left_part split = record { factor = negate split.left_factor; terms = split.form; side = integer split.at }

-- on the right it is at least the next whole number
abbrev pub right_part : SplitForm → Part
right_part split = record { factor = split.right_factor; terms = split.form; side = integer (split.at +ℤ pos 1) }

-- an inequality is another one with a part added, as linear forms and on the right side
pub record IsWithPart (before : Inequality) (part : Part) (after : Inequality) : Type 0 where
  pub form : (point : List ℚ)
      → dot after.coefficients point ≡ dot before.coefficients point +ℚ part.factor *ℚ activity part.terms point
  pub least : after.least ≡ before.least +ℚ part.factor *ℚ part.side

-- the split row of two rows: one of them with the left side's part and the other with the right side's have its
-- coefficients both, and its right side is the lesser of theirs
pub record IsSplitRow (integral : List Bool) (split : SplitForm) (left right row : Inequality) : Type 0 where
  pub whole : IsWholeForm integral split.form
  pub left_sign : zeroℚ ≤ℚ split.left_factor
  pub right_sign : zeroℚ ≤ℚ split.right_factor
  pub left_least : ℚ
  pub right_least : ℚ
  pub left_sum : IsWithPart left (left_part split) (record { coefficients = row.coefficients; least = left_least })
  pub right_sum : IsWithPart right (right_part split) (record { coefficients = row.coefficients; least = right_least })
  pub least : row.least ≡ minimum left_least right_least
