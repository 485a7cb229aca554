use Rattle.std.proofs.Common.{IfSome, subst}
use Rattle.cip_problem.specs.LinearProgram.{LinearProgram, IsPoint}
use Rattle.cip_relax.proofs.guessing.beside_point.Goals as goal

pub returns-in-Beside : goal.returns-in-Beside
returns-in-Beside c = λ lent box columns same bound.
    let point = subst (λ (lp : LinearProgram). IfSome c.in_ok-point.point (λ values. IsPoint lp values.items)) same c.in_ok-point.ensures.point in
    c.beside_rounded.ensures lent box columns same (rw c.in-Beside.is at (c.weighed.ensures lent box columns point bound))

pub returns-in-Shown : goal.returns-in-Shown
returns-in-Shown c = λ lent box columns same bound.
    let point = subst (λ (lp : LinearProgram). IfSome c.in_ok-point.point (λ values. IsPoint lp values.items)) same c.in_ok-point.ensures.point in
    rw c.in-Shown.is at (c.weighed.ensures lent box columns point bound)
