-- How many terms a row has: no more than there are columns below the one that it stands on.
use Rattle.std.proofs.Common.{◌≡◌, ℕ, zero, suc, ◌+◌, ◌<◌, ◌≤◌, List, length, refl, ap, arith, add-one}
use Rattle.cip_problem.specs.Program.{Term}
use Rattle.cip_problem.specs.Activity.{StandsBelow}
use Rattle.cip_problem.specs.RowTerms.{AreTerms, column_at, no_term}

-- the columns of terms rise, so each is at least its place
climbs : (terms : List Term) (k : ℕ) → AreTerms terms → k < length terms → k ≤ column_at terms k
climbs terms zero h l = omega arith
climbs terms (suc k) h l =
    let before : k ≤ column_at terms k = climbs terms k h (omega arith) in
    let next : column_at terms k < column_at terms (k + 1) = h.rising k (omega arith) in
    let same : column_at terms (k + 1) ≡ column_at terms (suc k) = ap (column_at terms) (add-one k) in
    omega (arith, before, next, same)

-- terms on the first n columns are at most n
pub few_terms : (n : ℕ) (terms : List Term) → AreTerms terms → StandsBelow n terms → length terms ≤ n
few_terms n terms h below = go (length terms) refl
  where
    go : (k : ℕ) → length terms ≡ k → length terms ≤ n
    go zero e = omega (arith, e)
    go (suc k) e =
        let last : k < length terms = omega (arith, e) in
        omega (arith, e, climbs terms k h last, below k no_term last)
