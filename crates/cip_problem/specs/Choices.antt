-- Semi-continuous columns: which values a choice allows, what a choice makes of a column's sides, in how many ways the
-- open choices can be made, and the program that is left where they are.
use Rattle.std.specs.Prelude.{◌≡◌, ◌⊎◌, ℕ, suc, ◌^◌, Bool, true, false, List, [], ◌∷◌, Option, None, Some, if◌then◌else◌, slice_index_or, ⊤}
use Rattle.cip_rational.specs.Rational.{ℚ, zeroℚ, minimum, maximum}
use Rattle.cip_problem.specs.Program.{Sides, Choice, Plain, Open, Off, On, Program}
use Rattle.cip_problem.specs.Activity.{value_at}
use Rattle.cip_problem.specs.Box.{Between}

-- the choice of a column
abbrev pub choice_at : List Choice → ℕ → Choice
choice_at choices column = slice_index_or choices column Plain

-- ---- values

-- a choice allows a value: where it is open, that is 0 or lies between the column's own sides; else the box says all
abbrev pub Allows : Choice → ℚ → Type 0
Allows Plain value = ⊤
Allows (Open own) value = (value ≡ zeroℚ) ⊎ Between own.low own.high value
Allows Off value = ⊤
Allows On value = ⊤

-- the value of each column is one that its choice allows
abbrev pub KeepsChoices : List Choice → List ℚ → Type 0
KeepsChoices choices point = (column : ℕ) → Allows (choice_at choices column) (value_at point column)

-- ---- sides

-- the greater and the lesser of two sides, as far as they are there
abbrev pub greater : Option ℚ → Option ℚ → Option ℚ
greater None other = other
greater (Some side) None = Some side
greater (Some side) (Some other) = Some (maximum side other)

abbrev pub lesser : Option ℚ → Option ℚ → Option ℚ
lesser None other = other
lesser (Some side) None = Some side
lesser (Some side) (Some other) = Some (minimum side other)

-- sides met with others: what lies between both
abbrev pub met : Sides → Sides → Sides
met sides others = record { low = greater sides.low others.low; high = lesser sides.high others.high }

-- the sides of a column that is off
abbrev pub zero_sides : Sides
zero_sides = record { low = Some zeroℚ; high = Some zeroℚ }

-- the sides of a semi-continuous column while its choice is open: from 0 to the greater of 0 and its own high side
abbrev pub open_sides : Sides → Sides
open_sides own = record { low = Some zeroℚ; high = greater (Some zeroℚ) own.high }

-- ---- choices that are made

-- whether a choice is open
abbrev pub is_open : Choice → Bool
is_open Plain = false
is_open (Open own) = true
is_open Off = false
is_open On = false

-- no choice is open
abbrev pub AreMade : List Choice → Type 0
AreMade choices = (column : ℕ) → is_open (choice_at choices column) ≡ false

-- how many choices are open
abbrev pub open_count : List Choice → ℕ
open_count [] = 0
open_count (Open own ∷ choices) = suc (open_count choices)
open_count (choice ∷ choices) = open_count choices

-- in how many ways they can be made
abbrev pub ways : List Choice → ℕ
ways choices = 2 ^ open_count choices

-- a choice that is open is so in the program too, with the same sides
abbrev pub IsStillOpen : (own now : Choice) → Type 0
IsStillOpen own now = is_open now ≡ true → own ≡ now

-- each open choice is so in the program too
abbrev pub AreStillOpen : (own now : List Choice) → Type 0
AreStillOpen own now = (column : ℕ) → IsStillOpen (choice_at own column) (choice_at now column)

-- ---- programs whose choices are made

-- a box where the choices are made, by rising column: the column has its own sides where it is on, and else 0
abbrev pub decided_box : List Choice → List Sides → List Bool → List Sides
decided_box [] box on = box
decided_box (choice ∷ choices) [] on = []
decided_box (Open own ∷ choices) (sides ∷ box) (is_on ∷ on) =
    (if is_on then own else zero_sides) ∷ decided_box choices box on
decided_box (choice ∷ choices) (sides ∷ box) on = sides ∷ decided_box choices box on

-- the program that is left where the choices are made
abbrev pub decided : Program → List Bool → Program
decided program on = record program { bounds = decided_box program.choices program.bounds on; choices = [] }

-- whether a column is on
abbrev pub is_on : Choice → Bool
is_on Plain = false
is_on (Open own) = false
is_on Off = false
is_on On = true

-- for each semi-continuous column of a program, whether it is on by these choices
abbrev pub made_on : (own now : List Choice) → List Bool
made_on [] now = []
made_on (Open own ∷ others) [] = false ∷ made_on others []
made_on (Open own ∷ others) (choice ∷ choices) = is_on choice ∷ made_on others choices
made_on (choice ∷ others) [] = made_on others []
made_on (choice ∷ others) (now ∷ choices) = made_on others choices
