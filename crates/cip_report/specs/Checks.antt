-- What the verdict on a point tells, as it is printed: names in the place of numbers, the value that is outside with
-- the side that it breaks, and of a program that maximises the cost negated again.
use Rattle.std.specs.Prelude.{ℕ, List, [], Option, None, Some, slice_get, slice_index_or, if◌then◌else◌}
use Rattle.cip_rational.specs.Rational.{ℚ, le_test}
use Rattle.cip_problem.specs.Program.{Sides, Row, Choice, Plain, Open, Off, On, Program}
use Rattle.cip_problem.specs.Activity.{value_at}
use Rattle.cip_problem.specs.Box.{no_sides, sides_at}
use Rattle.cip_problem.specs.Choices.{choice_at}
use Rattle.cip_problem.specs.Points.{printed}
use Rattle.cip_search.specs.Checks.{Broken, Below, Above, Checked, Feasible, BreaksBound, BreaksWhole, BreaksRow, WideRow, WideCost}
use Rattle.cip_model.specs.declared.verdicts.Place.TheVariants.{Row as AtRow, Cost}
use Rattle.cip_model.specs.declared.verdicts.Verdict.{Verdict}
use Rattle.cip_model.specs.declared.verdicts.Verdict.TheVariants.{Feasible as IsFeasible, BreaksBound as OutsideBound, BreaksWhole as NotWhole, BreaksRow as OutsideRow, Wide}

-- the high side, which a value is above; without one no value is, and this is met by none that is outside its sides
abbrev pub above_side : Option ℚ → ℚ → Broken
above_side (Some high) value = Above high
above_side None value = Above value

-- the side that a value outside two sides breaks: the low one where it is below it, else the high one
abbrev pub broken_side : Option ℚ → Option ℚ → ℚ → Broken
broken_side None high value = above_side high value
broken_side (Some low) high value = if le_test low value then above_side high value else Below low

abbrev pub sides_of_row : Option Row → Sides
sides_of_row (Some row) = record { low = row.low; high = row.high }
sides_of_row None = no_sides

-- a row that the value is outside of, with the side that it breaks
abbrev pub row_broken : List ℕ → ℚ → Sides → Checked
row_broken name value sides = BreaksRow name value (broken_side sides.low sides.high value)

-- a column whose value is outside its sides, with the side that it breaks
abbrev pub bound_broken : List ℕ → ℚ → Sides → Checked
bound_broken name value sides = BreaksBound name value (broken_side sides.low sides.high value)

-- the sides that a column's value is told to break: the own ones of a semi-continuous column, and else its bounds
abbrev pub told_sides : Choice → Sides → Sides
told_sides Plain sides = sides
told_sides (Open own) sides = own
told_sides Off sides = sides
told_sides On sides = sides

-- the name of a number
abbrev pub name_at : List (List ℕ) → ℕ → List ℕ
name_at names number = slice_index_or names number []

-- the verdict on a point of a program, as it is printed
abbrev pub checked_of : Program → List ℚ → Verdict → Checked
checked_of program point (IsFeasible cost) = Feasible (printed program cost)
checked_of program point (OutsideBound column) =
    bound_broken (name_at program.column_names column) (value_at point column)
    (told_sides (choice_at program.choices column) (sides_at program.bounds column))
checked_of program point (NotWhole column) = BreaksWhole (name_at program.column_names column) (value_at point column)
checked_of program point (OutsideRow number value) =
    row_broken (name_at program.row_names number) value (sides_of_row (slice_get program.rows number))
checked_of program point (Wide (AtRow number)) = WideRow (name_at program.row_names number)
checked_of program point (Wide Cost) = WideCost
