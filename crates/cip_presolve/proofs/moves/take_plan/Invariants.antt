use Rattle.cip_presolve.proofs.Plans.{TakenTo}
use Rattle.cip_presolve.proofs.moves.take_plan.Given as goal

abbrev pub invariant-loop-column : goal.invariant-loop-column
invariant-loop-column l = TakenTo l.plan l.initial.draft l.draft l.column
