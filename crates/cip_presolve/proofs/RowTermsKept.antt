-- Terms that are a row's have no fault.
use Rattle.std.proofs.Common.{◌≡◌, ℕ, ◌+◌, ◌<◌, List, length, subst, arith}
use Rattle.cip_rational.specs.Rational.{zeroℚ}
use Rattle.cip_problem.specs.Program.{Term}
use Rattle.cip_problem.specs.RowTerms.{column_at, coefficient_at, AreTerms}
use Rattle.cip_presolve.specs.RowFaults.{FallsBackAt}

pub never_back : (terms : List Term) (at : ℕ) → AreTerms terms → at < length terms → FallsBackAt terms at → ⊥
never_back terms at h i f =
    let r : column_at terms f.before < column_at terms (f.before + 1) = h.rising f.before (omega (arith, f.is_before, i)) in
    let s : column_at terms f.before < column_at terms at = subst (λ k. column_at terms f.before < column_at terms k) f.is_before r in
    omega (arith, s, f.not_above)

pub never_zero : (terms : List Term) (at : ℕ) → AreTerms terms → at < length terms → coefficient_at terms at ≡ zeroℚ → ⊥
never_zero terms at h i e = h.nonzero at i e

-- terms that are a row's
pub ruleset no_fault = (never_back, never_zero)
