use Rattle.std.proofs.lemmas.Grind.{common_steps}
use Rattle.std.proofs.Common.{subst, arith}
use Rattle.cip_problem.specs.LinearProgram.{LinearProgram, HasNoPoint, CostsAtLeast}
use Rattle.cip_relax.proofs.Rounding.{shown_bound}
use Rattle.cip_relax.proofs.guessing.by_rounding.Goals as goal

pub returns-in-Bound-clause-guessed : goal.returns-in-Bound-clause-guessed
returns-in-Bound-clause-guessed c = λ lent box columns same.
    let safe = rw c.in-Bound.is at (rw c.in-Some.is at c.in_ok-safe.ensures.safe) in
    let least = subst (λ (lp : LinearProgram). CostsAtLeast lp c.in-Bound.cost) same safe in
    c.beside_point.ensures lent box columns same (shown_bound c.args.program.now lent box c.in-Bound.cost least c.with_constant-bound.result c.with_constant-bound.ensures)

pub returns-in-Empty-clause-guessed : goal.returns-in-Empty-clause-guessed
returns-in-Empty-clause-guessed c = λ lent box columns same.
    subst HasNoPoint same (rw c.in-Empty.is at (rw c.in-Some.is at c.in_ok-safe.ensures.safe))

pub returns-in-None-clause-guessed : goal.returns-in-None-clause-guessed
returns-in-None-clause-guessed c = λ lent box columns same.
    c.beside_point-in-None.ensures lent box columns same tt

pub beside_point-requires : goal.beside_point-requires
beside_point-requires c = grind (arith, common_steps)

pub beside_point-requires-in-None : goal.beside_point-requires-in-None
beside_point-requires-in-None c = grind (arith, common_steps)

pub safe_bound-requires-clause-ready : goal.safe_bound-requires-clause-ready
safe_bound-requires-clause-ready c = grind (arith, common_steps)

pub safe_bound-requires-clause-room : goal.safe_bound-requires-clause-room
safe_bound-requires-clause-room c = grind (arith, common_steps)

pub returns-in-Bound-clause-room : goal.returns-in-Bound-clause-room
returns-in-Bound-clause-room c = c.safe_bound.ensures.room

pub returns-in-None-clause-room : goal.returns-in-None-clause-room
returns-in-None-clause-room c = c.safe_bound.ensures.room

pub returns-in-Empty-clause-room : goal.returns-in-Empty-clause-room
returns-in-Empty-clause-room c = c.safe_bound.ensures.room
