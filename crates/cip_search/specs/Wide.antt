-- When a leaf is wide: its fixed part, the sum over the whole columns at its values, can't be formed in the range, or
-- what a side leaves of it can't. Sums go by rising column, each product before its sum.
use Rattle.std.specs.Prelude.{◌≡◌, ℕ, Bool, true, false, ◌||◌, List, [], ◌∷◌, Option, None, Some, if◌then◌else◌, slice_get, slice_index_or}
use Rattle.cip_rational.specs.Rational.{ℚ, zeroℚ, ◌+ℚ◌, ◌*ℚ◌}
use Rattle.cip_rational.specs.Range.{sum_overflows, difference_overflows, product_overflows}
use Rattle.cip_problem.specs.Program.{Term, Row, Program}

-- where a sum overflows: in the row of this number, or in the cost
pub data Place : Type 0 where
  InRow : (number : ℕ) → Place
  InCost : Place

-- for each column its value in a leaf; a continuous column has none
abbrev pub fixed_values : List Bool → List ℚ → List (Option ℚ)
fixed_values [] leaf = []
fixed_values (false ∷ wholes) leaf = None ∷ fixed_values wholes leaf
fixed_values (true ∷ wholes) [] = None ∷ fixed_values wholes []
fixed_values (true ∷ wholes) (value ∷ values) = Some value ∷ fixed_values wholes values

-- a sum with a product added: none where the product or then the sum overflows
abbrev pub added : ℚ → ℚ → ℚ → Option ℚ
added sum a b = if product_overflows a b || sum_overflows sum (a *ℚ b) then None else Some (sum +ℚ (a *ℚ b))

-- a sum with the product of a coefficient and the value of a column added, if it has one
abbrev pub part_added : ℚ → ℚ → Option ℚ → Option ℚ
part_added sum coefficient None = Some sum
part_added sum coefficient (Some value) = added sum coefficient value

-- what comes after a sum; none stays none
abbrev pub then_sum : Option ℚ → (ℚ → Option ℚ) → Option ℚ
then_sum None next = None
then_sum (Some sum) next = next sum

-- a sum with the products of the terms on columns with values added, one after another
abbrev pub row_part : ℚ → List Term → List (Option ℚ) → Option ℚ
row_part sum [] values = Some sum
row_part sum (t ∷ ts) values =
    then_sum (part_added sum t.coefficient (slice_index_or values t.column None)) (λ more. row_part more ts values)

-- a sum with the products of the costs of columns with values added, one after another
abbrev pub cost_part : ℚ → List ℚ → List (Option ℚ) → Option ℚ
cost_part sum [] values = Some sum
cost_part sum (cost ∷ costs) [] = Some sum
cost_part sum (cost ∷ costs) (value ∷ values) =
    then_sum (part_added sum cost value) (λ more. cost_part more costs values)

-- the fixed part of a row, from 0, and that of the cost, from the constant; none where it overflows
abbrev pub fixed_part : Program → List ℚ → Row → Option ℚ
fixed_part program leaf row = row_part zeroℚ row.terms (fixed_values program.integral leaf)

abbrev pub fixed_cost : Program → List ℚ → Option ℚ
fixed_cost program leaf = cost_part program.constant program.costs (fixed_values program.integral leaf)

-- a side less a fixed part overflows
abbrev pub shift_overflows : Option ℚ → ℚ → Bool
shift_overflows None part = false
shift_overflows (Some side) part = difference_overflows side part

-- a row with this fixed part is wide
abbrev pub is_wide_row : Row → Option ℚ → Bool
is_wide_row row None = true
is_wide_row row (Some part) = shift_overflows row.low part || shift_overflows row.high part

-- a leaf is wide in the row of this number
pub record IsWideInRow (program : Program) (leaf : List ℚ) (number : ℕ) : Type 0 where
  pub row : Row
  pub is_row : slice_get program.rows number ≡ Some row
  pub wide : is_wide_row row (fixed_part program leaf row) ≡ true

-- a leaf is wide at a place
abbrev pub IsWideAt : Program → List ℚ → Place → Type 0
IsWideAt program leaf (InRow number) = IsWideInRow program leaf number
IsWideAt program leaf InCost = fixed_cost program leaf ≡ None

-- a leaf is wide
abbrev pub IsWide : Program → List ℚ → Type 0
IsWide program leaf = (place : Place) × IsWideAt program leaf place
