use Rattle.std.proofs.Common.{arith}
use Rattle.cip_presolve.proofs.spent.spent_column.Goals as goal

pub bounds-first-0 : goal.bounds-first-0
bounds-first-0 c = omega arith

pub bounds-second-1 : goal.bounds-second-1
bounds-second-1 c = omega arith
