-- The activity of a row of small whole numbers does not overflow.
use Rattle.std.proofs.Common.{◌≡◌, ℕ, ◌+◌, ◌*◌, suc, ◌≤◌, List, [], ◌∷◌, length, arith, subst}
use Rattle.std.specs.List.{AllByRecursion}
use Rattle.cip_frac.specs.Rational.{ℚ}
use Rattle.cip_frac.specs.Range.{largest}
use Rattle.cip_frac.specs.Outcomes.{product_added}
use Rattle.cip_frac.proofs.WholeSizes.{IsWithin, IsOkWithin, within_added, then_within}
use Rattle.cip_problem.specs.Program.{Term}
use Rattle.cip_problem.specs.Activity.{value_at}
use Rattle.cip_lin.specs.RowSums.{activity_from}

-- coefficients of size at most m stand on values of size at most n
abbrev pub TermsWithin : ℕ → ℕ → List Term → List ℚ → Type 0
TermsWithin m n terms point = AllByRecursion (λ t. IsWithin m t.coefficient × IsWithin n (value_at point t.column)) terms

-- the sum of a row's products: k and, for each term, m times n
pub within_activity : (k m n : ℕ) (sum : ℚ) (terms : List Term) (point : List ℚ) → IsWithin k sum → TermsWithin m n terms point → k + length terms * (m * n) ≤ largest → IsOkWithin (k + length terms * (m * n)) (activity_from sum terms point)
within_activity k m n sum [] point r h l = subst (λ j. IsWithin j sum) (omega arith) r
within_activity k m n sum (t ∷ ts) point r h l =
    let e : k + m * n + length ts * (m * n) ≡ k + suc (length ts) * (m * n) = omega arith in
    subst (λ j. IsOkWithin j (activity_from sum (t ∷ ts) point)) e
    (then_within (k + m * n + length ts * (m * n)) (product_added sum t.coefficient (value_at point t.column)) (k + m * n) (λ more. activity_from more ts point)
    (within_added k m n sum t.coefficient (value_at point t.column) r h.0.0 h.0.1 (omega (arith, l, e)))
    (λ q w. within_activity (k + m * n) m n q ts point w h.1 (omega (arith, l, e))))
