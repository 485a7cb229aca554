-- The activity of a row and its least activity in a box, summed up in the order of the terms: the value, or the first
-- operation that overflows. The module below has the value of the activity.
use Rattle.std.specs.Prelude.{List, [], ◌∷◌, Option, None, Some, Result, Ok, Err, if◌then◌else◌}
use Rattle.cip_frac.specs.Rational.{ℚ, zeroℚ, lt_test}
use Rattle.cip_frac.specs.declared.operations.Wide.{Wide}
use Rattle.cip_frac.specs.Outcomes.{and_then, product_added}
use Rattle.cip_problem.specs.Program.{Term, Sides}
use Rattle.cip_problem.specs.Activity.{value_at}
use Rattle.cip_problem.specs.Box.{sides_at}
use Rattle.cip_lin.specs.declared.outcomes.Least.{Least}
use Rattle.cip_lin.specs.declared.outcomes.Least.TheVariants.{Value, NoBound, Wide as TooWide}

-- a sum with the products of the terms added, one after another
abbrev pub activity_from : ℚ → List Term → List ℚ → Result ℚ Wide
activity_from sum [] point = Ok sum
activity_from sum (t ∷ ts) point =
    and_then (product_added sum t.coefficient (value_at point t.column)) (λ more. activity_from more ts point)

-- the side at which a product with this coefficient is least
abbrev pub least_side : ℚ → Sides → Option ℚ
least_side coefficient sides = if lt_test coefficient zeroℚ then sides.high else sides.low

abbrev pub least_of : Result ℚ Wide → Least
least_of (Ok q) = Value q
least_of (Err wide) = TooWide

-- a sum with one least product added: the column has no bound where the side is open
abbrev pub least_at : ℚ → ℚ → Option ℚ → Least
least_at sum coefficient None = NoBound
least_at sum coefficient (Some side) = least_of (product_added sum coefficient side)

abbrev pub least_added : ℚ → ℚ → Sides → Least
least_added sum coefficient sides = least_at sum coefficient (least_side coefficient sides)

-- what comes after a least value: what has none stays so
abbrev pub least_then : Least → (ℚ → Least) → Least
least_then (Value q) next = next q
least_then NoBound next = NoBound
least_then TooWide next = TooWide

-- a sum with the least products of the terms in a box added, one after another
abbrev pub least_from : ℚ → List Term → List Sides → Least
least_from sum [] box = Value sum
least_from sum (t ∷ ts) box =
    least_then (least_added sum t.coefficient (sides_at box t.column)) (λ more. least_from more ts box)
