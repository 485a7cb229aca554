use Rattle.std.proofs.Common.{take}
use Rattle.cip_problem.specs.Activity.{StandsBelow}
use Rattle.cip_simplex.proofs.lp.stands_below.Given as goal

abbrev pub invariant-loop-term : goal.invariant-loop-term
invariant-loop-term l = StandsBelow l.columns (take l.term-index l.terms)
