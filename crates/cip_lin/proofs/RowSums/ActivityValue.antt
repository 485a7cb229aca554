-- What the sum of a row's products is, where no operation overflows.
use Rattle.std.proofs.Common.{◌≡◌, List, [], ◌∷◌, IfOk, sym}
use Rattle.cip_frac.specs.Rational.{ℚ, ◌+ℚ◌, ◌*ℚ◌, zeroℚ}
use Rattle.cip_frac.proofs.PassedOn.{+ℚ_assoc, +ℚ-zero, zero-+ℚ}
use Rattle.cip_problem.specs.Program.{Term}
use Rattle.cip_problem.specs.Activity.{activity, value_at}
use Rattle.cip_frac.specs.Outcomes.{product_added}
use Rattle.cip_frac.proofs.Outcomes.{then_value, product_added-value}
use Rattle.cip_lin.specs.RowSums.{activity_from}

-- a sum with the products of a row added
pub activity_from-value : (sum : ℚ) (terms : List Term) (point : List ℚ) → IfOk (activity_from sum terms point) (λ v. v ≡ sum +ℚ activity terms point)
activity_from-value sum [] point = sym (+ℚ-zero sum)
activity_from-value sum (t ∷ ts) point =
    let product = t.coefficient *ℚ value_at point t.column in
    then_value (product_added sum t.coefficient (value_at point t.column)) (λ more. activity_from more ts point) (sum +ℚ product) (sum +ℚ (product +ℚ activity ts point))
    (product_added-value sum t.coefficient (value_at point t.column))
    (rw (← +ℚ_assoc sum product (activity ts point)) (activity_from-value (sum +ℚ product) ts point))

-- from 0 it is the activity
pub activity_from-zero : (terms : List Term) (point : List ℚ) → IfOk (activity_from zeroℚ terms point) (λ v. v ≡ activity terms point)
activity_from-zero terms point = rw (zero-+ℚ (activity terms point)) at (activity_from-value zeroℚ terms point)
