-- Regions, which are boxes with choices; changes of one column; and regions after them.
use Rattle.std.specs.Prelude.{ℕ, Bool, not, List, [], ◌∷◌, Option, None, Some, slice_set, refl}
use Rattle.std.specs.Coded.{Coded, code_by, coded×, coded_ℕ, coded_bool, coded_option}
use Rattle.cip_rational.specs.Rational.{ℚ}
use Rattle.cip_problem.specs.Program.{Sides, Choice, Plain, Open, Off, On}
use Rattle.cip_problem.specs.Codes.{sides_code, box_code, choices_code}
use Rattle.cip_problem.specs.Box.{no_sides, sides_at, low_inside, high_inside, is_between}
use Rattle.cip_problem.specs.Choices.{choice_at, met}
use Rattle.cip_lin.specs.ChoiceParts.{made_choice}
use Rattle.cip_lin.specs.declared.sides.Side.{Side}
use Rattle.cip_lin.specs.declared.sides.Side.TheVariants.{Low, High}

-- a box, and the choices of its columns; those past their end are plain
pub record Region : Type 0 where
  pub box : List Sides
  pub choices : List Choice

-- a region with other sides and another choice at a column
abbrev pub with_column : Region → ℕ → Sides → Choice → Region
with_column region column sides choice = record {
  box = slice_set region.box column sides;
  choices = slice_set region.choices column choice;
}

-- sides that a column's are met with, and what is chosen of it, if that is: on or off
pub record Change : Type 0 where
  pub column : ℕ
  pub sides : Sides
  pub made : Option Bool

-- a choice after one was made. A plain column has none; once a column is off it stays so, as its sides are met with 0
abbrev pub choice_after : Choice → Option Bool → Choice
choice_after choice None = choice
choice_after Plain (Some on) = Plain
choice_after (Open own) (Some on) = made_choice on
choice_after Off (Some on) = Off
choice_after On (Some on) = made_choice on

-- a region after a change
abbrev pub tightened : Region → Change → Region
tightened region change =
    with_column region change.column (met (sides_at region.box change.column) change.sides)
    (choice_after (choice_at region.choices change.column) change.made)

-- a region after changes, of which the last is made first
abbrev pub narrowed : Region → List Change → Region
narrowed region [] = region
narrowed region (change ∷ earlier) = tightened (narrowed region earlier) change

-- ---- changes of one side

-- the sides with another value for one of them
abbrev pub with_side : Sides → Side → Option ℚ → Sides
with_side sides Low value = record { low = value; high = sides.high }
with_side sides High value = record { low = sides.low; high = value }

-- the change that meets one side with a value
abbrev pub side_change : ℕ → Side → ℚ → Change
side_change column side value =
    record { column = column; sides = with_side no_sides side (Some value); made = None }

-- the same, where there may be no value
abbrev pub one_side : ℕ → Side → Option ℚ → Change
one_side column side value = record { column = column; sides = with_side no_sides side value; made = None }

-- the change that makes a choice, if one is made, and leaves the sides
abbrev pub one_choice : ℕ → Option Bool → Change
one_choice column made = record { column = column; sides = no_sides; made = made }

-- a side is at least as strong as a value already
abbrev pub is_as_strong : Sides → Side → ℚ → Bool
is_as_strong sides Low value = low_inside sides.low (Some value)
is_as_strong sides High value = high_inside sides.high (Some value)

-- with this value for a side the low one would pass the high one: the value is not between the other side and none
abbrev pub would_cross : Sides → Side → ℚ → Bool
would_cross sides side value =
    let others = with_side sides side None in not (is_between others.low others.high value)

-- ---- codes

-- box and choices
abbrev pub region_code : Coded Region
region_code =
    code_by (List Sides × List Choice) (coded× box_code choices_code)
    (λ r. (r.box, r.choices)) (λ p. record { box = p.0; choices = p.1 }) (λ _. refl)

-- column, sides and what is made
abbrev pub change_code : Coded Change
change_code =
    code_by (ℕ × (Sides × Option Bool)) (coded× coded_ℕ (coded× sides_code (coded_option coded_bool)))
    (λ c. (c.column, (c.sides, c.made))) (λ p. record { column = p.0; sides = p.1.0; made = p.1.1 }) (λ _. refl)
