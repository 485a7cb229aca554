-- What sums and products come to, and chains of them in the order in which they are formed: the value, or the first
-- operation that overflows.
use Rattle.std.specs.Prelude.{List, [], ◌∷◌, Result, Ok, Err, if◌then◌else◌}
use Rattle.cip_rational.specs.Rational.{ℚ, ◌+ℚ◌, ◌*ℚ◌}
use Rattle.cip_rational.specs.Range.{sum_overflows, product_overflows}
use Rattle.cip_frac.specs.declared.operations.Wide.{Wide}
use Rattle.cip_frac.specs.declared.operations.Operation.TheVariants.{Sum, Product}

-- a + b, or that this sum overflows
abbrev pub sum_outcome : ℚ → ℚ → Result ℚ Wide
sum_outcome a b = if sum_overflows a b then Err (record { op = Sum; left = a; right = b }) else Ok (a +ℚ b)

-- a * b, or that this product overflows
abbrev pub product_outcome : ℚ → ℚ → Result ℚ Wide
product_outcome a b = if product_overflows a b then Err (record { op = Product; left = a; right = b }) else Ok (a *ℚ b)

-- what comes after an outcome: an overflow stays
abbrev pub and_then : Result ℚ Wide → (ℚ → Result ℚ Wide) → Result ℚ Wide
and_then (Ok q) next = next q
and_then (Err wide) next = Err wide

-- sum + a * b, the product formed first
abbrev pub product_added : ℚ → ℚ → ℚ → Result ℚ Wide
product_added sum a b = and_then (product_outcome a b) (λ product. sum_outcome sum product)

-- a sum with the products of two lists added, one after another
abbrev pub dot_from : ℚ → List ℚ → List ℚ → Result ℚ Wide
dot_from sum [] vs = Ok sum
dot_from sum (u ∷ us) [] = Ok sum
dot_from sum (u ∷ us) (v ∷ vs) = and_then (product_added sum u v) (λ more. dot_from more us vs)
