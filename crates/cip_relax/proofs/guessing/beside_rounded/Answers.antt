use Rattle.std.proofs.Common.{IfSome, subst}
use Rattle.cip_problem.specs.LinearProgram.{LinearProgram, IsPoint}
use Rattle.cip_relax.proofs.guessing.beside_rounded.Goals as goal

pub returns-then-is_some : goal.returns-then-is_some
returns-then-is_some c = λ lent box columns same near. near

pub returns-else-is_some : goal.returns-else-is_some
returns-else-is_some c = λ lent box columns same near.
    let point = subst (λ (lp : LinearProgram). IfSome c.in_ok-point.point (λ values. IsPoint lp values.items)) same c.in_ok-point.ensures.point in
    rw c.in-Beside.is at (c.weighed.ensures lent box columns point near.bound)

pub returns-in-Shown : goal.returns-in-Shown
returns-in-Shown c = λ lent box columns same near.
    let point = subst (λ (lp : LinearProgram). IfSome c.in_ok-point.point (λ values. IsPoint lp values.items)) same c.in_ok-point.ensures.point in
    rw c.in-Shown.is at (c.weighed.ensures lent box columns point near.bound)
