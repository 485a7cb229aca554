use Rattle.std.proofs.lemmas.Grind.{common_steps}
use Rattle.std.proofs.Common.{arith}
use Rattle.cip_relax.proofs.Solving.{reached}
use Rattle.cip_relax.proofs.asking.asked_greedily.Goals as goal

pub overflow_cast-variables : goal.overflow_cast-variables
overflow_cast-variables c = grind (arith, common_steps)

pub returns-in-None : goal.returns-in-None
returns-in-None c = grind (arith, common_steps)

pub returns-in-Some : goal.returns-in-Some
returns-in-Some c =
    reached c.args.lp.now c.in_ok-first.first c.in_ok-first.last c.in-Some.found c.in_ok-first.ensures c.in-Some.is
