-- The least cost in a box, with rows and whole columns left aside. The module below has its laws.
use Rattle.std.specs.Prelude.{List, [], ◌∷◌, Option, None, Some, if◌then◌else◌}
use Rattle.cip_rational.specs.Rational.{ℚ, ◌+ℚ◌, ◌*ℚ◌, zeroℚ, lt_test}
use Rattle.cip_problem.specs.Program.{Sides, Program}

-- a sum, where both of its parts have a value
abbrev pub sum_if_both : Option ℚ → Option ℚ → Option ℚ
sum_if_both None b = None
sum_if_both (Some a) None = None
sum_if_both (Some a) (Some b) = Some (a +ℚ b)

-- a product with the side of a column, where the side is there
abbrev pub product_at : ℚ → Option ℚ → Option ℚ
product_at cost None = None
product_at cost (Some side) = Some (cost *ℚ side)

-- the least cost of one column between its sides: a cost below 0 is least at the high side, one above 0
-- at the low side, and a column without a cost costs 0; none where that side is open
abbrev pub least_cost : ℚ → Sides → Option ℚ
least_cost cost sides =
    if lt_test cost zeroℚ then product_at cost sides.high
    else (if lt_test zeroℚ cost then product_at cost sides.low else Some zeroℚ)

-- the least cost of all columns
abbrev pub least_costs : List ℚ → List Sides → Option ℚ
least_costs [] box = Some zeroℚ
least_costs (cost ∷ costs) [] = Some zeroℚ
least_costs (cost ∷ costs) (sides ∷ others) = sum_if_both (least_cost cost sides) (least_costs costs others)

-- the constant and the least cost of each column in a box, if each has one
abbrev pub box_bound : Program → List Sides → Option ℚ
box_bound program box = sum_if_both (Some program.constant) (least_costs program.costs box)
