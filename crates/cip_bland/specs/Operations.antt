-- Operations with the places at which they are formed, in their order, and the first of them that overflows.
use Rattle.std.specs.Prelude.{ℕ, Bool, ◌||◌, List, [], ◌∷◌, Option, None, Some, if◌then◌else◌}
use Rattle.cip_rational.specs.Rational.{ℚ, ◌*ℚ◌, is_zero}
use Rattle.cip_rational.specs.Range.{sum_overflows, difference_overflows, product_overflows}
use Rattle.cip_bland.specs.declared.places.Line.{Line}
use Rattle.cip_bland.specs.declared.places.EntryPlace.{EntryPlace}

-- a sum, a difference or a product, of two numbers
pub data Operation : Type 0 where
  Sum : ℚ → ℚ → Operation
  Difference : ℚ → ℚ → Operation
  Product : ℚ → ℚ → Operation

-- whether it leaves the range
abbrev pub overflows : Operation → Bool
overflows (Sum a b) = sum_overflows a b
overflows (Difference a b) = difference_overflows a b
overflows (Product a b) = product_overflows a b

-- an operation at its place
pub record Placed : Type 0 where
  pub place : EntryPlace
  pub operation : Operation

-- the place of the first operation that overflows
abbrev pub first_overflow : List Placed → Option EntryPlace
first_overflow [] = None
first_overflow (p ∷ ps) = if overflows p.operation then Some p.place else first_overflow ps

-- the place of the entry of a line on a variable
abbrev pub entry_place : Line → ℕ → EntryPlace
entry_place line k = record { line = line; variable = Some k }

-- the place of the value of a line
abbrev pub value_place : Line → EntryPlace
value_place line = record { line = line; variable = None }

abbrev pub placed : EntryPlace → Operation → Placed
placed place operation = record { place = place; operation = operation }

-- the product a * b; where a factor is 0 nothing is formed
abbrev pub product_at : EntryPlace → ℚ → ℚ → List Placed
product_at place a b = if is_zero a || is_zero b then [] else placed place (Product a b) ∷ []

-- the product a * b, and then the sum c + a * b; where a factor is 0 nothing is formed
abbrev pub sum_at : EntryPlace → ℚ → ℚ → ℚ → List Placed
sum_at place c a b =
    if is_zero a || is_zero b then []
    else placed place (Product a b) ∷ placed place (Sum c (a *ℚ b)) ∷ []
