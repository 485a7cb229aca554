-- Values put at the places of the columns that take one, value by value.
use Rattle.std.specs.Prelude.{Bool, true, false, ◌&&◌, List, [], ◌∷◌, Option, is_none}
use Rattle.cip_rational.specs.Rational.{ℚ, zeroℚ}
use Rattle.cip_presolve.specs.Forms.{Form}

-- the first value of those that are left, and the other ones
abbrev pub next_value : List ℚ → ℚ
next_value [] = zeroℚ
next_value (value ∷ values) = value

abbrev pub later_values : List ℚ → List ℚ
later_values [] = []
later_values (value ∷ values) = values

-- the value at the place of a column, by whether it takes one, and the values that are left behind it
abbrev pub value_taken : Bool → List ℚ → ℚ
value_taken true values = next_value values
value_taken false values = zeroℚ

abbrev pub values_behind : Bool → List ℚ → List ℚ
values_behind true values = later_values values
values_behind false values = values

-- whether a column stays and is whole, by the flags from it on
abbrev pub is_whole_left : Option Form → List Bool → Bool
is_whole_left form [] = false
is_whole_left form (whole ∷ others) = is_none form && whole

abbrev pub later_flags : List Bool → List Bool
later_flags [] = []
later_flags (whole ∷ others) = others

-- whether each column stays and is whole
abbrev pub whole_and_left : List (Option Form) → List Bool → List Bool
whole_and_left [] whole = []
whole_and_left (form ∷ forms) whole = is_whole_left form whole ∷ whole_and_left forms (later_flags whole)
