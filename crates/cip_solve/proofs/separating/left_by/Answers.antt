use Rattle.std.proofs.lemmas.Grind.{common_steps}
use Rattle.std.proofs.Common.{sym, ap, arith}
use Rattle.cip_calls.specs.declared.judging.Came.{Came}
use Rattle.cip_solve.specs.NodesReached.{left_by}
use Rattle.cip_solve.proofs.separating.left_by.Goals as goal

pub returns-in-Emptied : goal.returns-in-Emptied
returns-in-Emptied c = sym (ap (λ (came : Came). left_by came c.args.found) c.in-Emptied.is)

pub returns-in-Quiet : goal.returns-in-Quiet
returns-in-Quiet c = grind (arith, common_steps)
