-- What checks that accept say of the linear program that is lent.
use Rattle.std.proofs.Common.{◌≡◌, ℕ, ◌≤◌, List, [], ◌∷◌, map, length, Result, Ok, Err, IsOk, IfOk, refl, sym, ◌∙◌, subst}
use Rattle.std.specs.List.{AllByRecursion}
use Rattle.cip_rational.specs.Rational.{ℚ, ◌+ℚ◌, zeroℚ}
use Rattle.cip_rational.specs.Sums.{dot}
use Rattle.cip_rational.proofs.Rational.Ring.{zero-+ℚ}
use Rattle.cip_problem.specs.Program.{Sides, Row}
use Rattle.cip_problem.specs.Box.{IsInBox}
use Rattle.cip_problem.specs.Points.{IsSatisfied}
use Rattle.cip_problem.specs.LinearProgram.{IsPoint, HasNoPoint, CostsAtLeast, IsOptimal}
use Rattle.cip_frac.specs.Outcomes.{dot_from}
use Rattle.cip_frac.proofs.Outcomes.{dot_from-value}
use Rattle.cip_cert.specs.declared.rows.PoolRow.{PoolRow}
use Rattle.cip_cert.specs.declared.faults.CutFault.{CutFault}
use Rattle.cip_cert.specs.Lent.{Lent, Multiples}
use Rattle.cip_cert.specs.Checks.{lower_bound_of, emptied}
use Rattle.cip_cert.specs.Follows.{RowsHold, BoundFollows, EmptinessFollows}
use Rattle.cip_cert.proofs.Meaning.{lower_bound_follows, empties_follows}
use Rattle.cip_rows.specs.RowPools.{usable_in}
use Rattle.cip_basis.specs.declared.problem.Problem.{Problem}
use Rattle.cip_basis.specs.Shown.{lent_rows, program_of, without_cutoff, IsReady}
use Rattle.cip_basis.proofs.Points.{front_of, back_of}
use Rattle.cip_basis.proofs.Usable.{lent_usable, fits_usable, bound_usable, emptied_usable}

-- a check that accepts has a value
ok_value : (r : Result ℚ CutFault) → IsOk r → (b : ℚ) × (r ≡ Ok b)
ok_value (Ok b) h = (b, refl)
ok_value (Err fault) h = absurd (cc)

pool_holds : (point : List ℚ) (ks : List PoolRow) → AllByRecursion (λ row. IsSatisfied row point) (map (λ (kept : PoolRow). kept.row) ks) → AllByRecursion (λ (kept : PoolRow). IsInBox kept.scope point → IsSatisfied kept.row point) ks
pool_holds point [] h = tt
pool_holds point (k ∷ ks) h = (λ w. h.0, pool_holds point ks h.1)

module _ (problem : Problem) (r : IsReady problem) where
  rows_hold : (point : List ℚ) → IsPoint (program_of problem) point → RowsHold (lent_usable problem.bounds.now (without_cutoff problem.own.now problem.pool.now)) point
  rows_hold point p = record {
    own = front_of (λ row. IsSatisfied row point) problem.own.now (lent_rows problem.others.now) p.rows;
    pool = pool_holds point (usable_in problem.bounds.now problem.pool.now) (subst (λ (rows : List Row). AllByRecursion (λ row. IsSatisfied row point) rows) r.others (back_of (λ row. IsSatisfied row point) problem.own.now (lent_rows problem.others.now) p.rows));
    cutoff = tt;
  }

  pub least : (columns : ℕ) (combo : Multiples) (bound : ℚ) → length problem.bounds.now ≤ columns → lower_bound_of (without_cutoff problem.own.now problem.pool.now) problem.bounds.now columns problem.costs.now combo ≡ Ok bound → CostsAtLeast (program_of problem) bound
  least columns combo bound room e =
      let lent : Lent = without_cutoff problem.own.now problem.pool.now in
      let box : List Sides = problem.bounds.now in
      let costs : List ℚ = problem.costs.now in
      let follows : BoundFollows (lent_usable box lent) box costs bound =
      subst (λ o. IfOk o (BoundFollows (lent_usable box lent) box costs)) (bound_usable lent box columns costs combo bound e)
      (lower_bound_follows (lent_usable box lent) box columns combo (fits_usable box lent (length box) r.fits) room costs r.costs) in
      λ point p. follows point (rows_hold point p) p.within

  pub no_point : (columns : ℕ) (combo : Multiples) (bound : ℚ) → length problem.bounds.now ≤ columns → emptied (without_cutoff problem.own.now problem.pool.now) problem.bounds.now columns combo ≡ Ok bound → HasNoPoint (program_of problem)
  no_point columns combo bound room e =
      let lent : Lent = without_cutoff problem.own.now problem.pool.now in
      let box : List Sides = problem.bounds.now in
      let follows : EmptinessFollows (lent_usable box lent) box =
      empties_follows (lent_usable box lent) box columns combo (fits_usable box lent (length box) r.fits) room (Ok bound) (sym (emptied_usable lent box columns combo bound e)) in
      λ point p. follows point (rows_hold point p) p.within

  pub emptied_by : (columns : ℕ) (combo : Multiples) → length problem.bounds.now ≤ columns → IsOk (emptied (without_cutoff problem.own.now problem.pool.now) problem.bounds.now columns combo) → HasNoPoint (program_of problem)
  emptied_by columns combo room h =
      let found = ok_value (emptied (without_cutoff problem.own.now problem.pool.now) problem.bounds.now columns combo) h in
      no_point columns combo found.0 room found.1

  -- a point whose cost is a bound is least
  pub optimal : (point : List ℚ) (cost bound : ℚ) → IsPoint (program_of problem) point → dot_from zeroℚ problem.costs.now point ≡ Ok cost → CostsAtLeast (program_of problem) bound → bound ≡ cost → IsOptimal (program_of problem) point cost
  optimal point cost bound p c b same = record {
    is_point = p;
    cost_is = sym (subst (λ o. IfOk o (λ v. v ≡ zeroℚ +ℚ dot problem.costs.now point)) c (dot_from-value zeroℚ problem.costs.now point) ∙ zero-+ℚ (dot problem.costs.now point));
    least = subst (CostsAtLeast (program_of problem)) same b;
  }
