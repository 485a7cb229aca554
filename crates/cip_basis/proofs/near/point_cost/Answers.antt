use Rattle.std.proofs.Common.{◌≡◌, IfOk, sym, ◌∙◌, subst}
use Rattle.cip_rational.specs.Rational.{◌+ℚ◌, zeroℚ}
use Rattle.cip_rational.specs.Sums.{dot}
use Rattle.cip_rational.proofs.Rational.Ring.{zero-+ℚ}
use Rattle.cip_frac.proofs.Outcomes.{dot_from-value}
use Rattle.cip_basis.proofs.near.point_cost.Goals as goal

pub returns-in-Ok : goal.returns-in-Ok
returns-in-Ok c =
    let costs = c.args.costs.now in
    let point = c.args.point.now in
    let summed = subst (λ r. IfOk r (λ v. v ≡ zeroℚ +ℚ dot costs point)) (sym c.in-Ok.ensures) (dot_from-value zeroℚ costs point) in
    sym (summed ∙ zero-+ℚ (dot costs point))
