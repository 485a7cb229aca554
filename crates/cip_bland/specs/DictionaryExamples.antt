-- The definitions tried on a program of two columns and one row, and on one of which a value overflows.
use Rattle.std.specs.Prelude.{◌≡◌, ℕ, ◌==◌, ◌^◌, pos, negsuc, [], ◌∷◌, None, Some, if◌then◌else◌}
use Rattle.cip_rational.specs.Rational.{ℚ, zeroℚ, oneℚ, integer, ratio}
use Rattle.cip_problem.specs.Program.{Sides}
use Rattle.cip_bland.specs.Dictionary.{Dictionary, entry, cost_entry, value, stand}
use Rattle.cip_bland.specs.Exchange.{exchanged}
use Rattle.cip_bland.specs.Operations.{first_overflow, value_place}
use Rattle.cip_bland.specs.FirstState.{System, first, first_operations}
use Rattle.cip_bland.specs.declared.moves.Stand.TheVariants.{Low}
use Rattle.cip_bland.specs.declared.places.Line.TheVariants.{Row}

-- at least so much
abbrev pub from : ℚ → Sides
from low = record { low = Some low; high = None }

-- the first of two numbers at 0, the other elsewhere
abbrev pub pair_of : ℚ → ℚ → ℕ → ℚ
pair_of a b k = if k == 0 then a else b

-- x and y from 0, the row r = 2x - 3y from 1, and the cost x + y
abbrev pub small : System
small = record {
  columns = from zeroℚ ∷ from zeroℚ ∷ [];
  rows = from oneℚ ∷ [];
  coefficient = λ r. pair_of (integer (pos 2)) (integer (negsuc 2));
  costs = pair_of oneℚ oneℚ;
}

-- r, which is variable 2, leaves to its low side, and x enters for it
abbrev pub turned : Dictionary
turned = exchanged (first small) 2 0 Low

-- one column from 2^63, and on it a row of coefficient 2^64
abbrev pub large : System
large = record {
  columns = from (integer (pos (2 ^ 63))) ∷ [];
  rows = from zeroℚ ∷ [];
  coefficient = λ r k. integer (pos (2 ^ 64));
  costs = λ k. zeroℚ;
}

-- x = 1/2 r + 3/2 y, and the cost is 1/2 r + 5/2 y; both are 1/2 then, and r is 1; the row of the large program is out
-- of range
pub record Examples : Type 0 where
  pub on_r : entry turned 0 2 ≡ ratio (pos 1) 2
  pub on_x : entry turned 0 0 ≡ zeroℚ
  pub on_y : entry turned 0 1 ≡ ratio (pos 3) 2
  pub cost_on_r : cost_entry turned 2 ≡ ratio (pos 1) 2
  pub cost_on_y : cost_entry turned 1 ≡ ratio (pos 5) 2
  pub value_of_x : value turned 0 ≡ ratio (pos 1) 2
  pub value_of_r : value turned 2 ≡ oneℚ
  pub cost : turned.cost ≡ ratio (pos 1) 2
  pub r_is_low : stand turned 2 ≡ Some Low
  pub x_is_basic : stand turned 0 ≡ None
  pub too_large : first_overflow (first_operations large) ≡ Some (value_place (Row 1))
