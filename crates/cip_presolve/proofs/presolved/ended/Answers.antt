use Rattle.std.proofs.lemmas.Grind.{common_steps}
use Rattle.std.proofs.Common.{arith}
use Rattle.cip_search.specs.NarrowedPrograms.{IsInfeasible}
use Rattle.cip_presolve.proofs.LeftPairs.{infeasible_named}
use Rattle.cip_presolve.proofs.presolved.ended.Goals as goal

pub returns-in-NoPoint-clause-right : goal.returns-in-NoPoint-clause-right
returns-in-NoPoint-clause-right c =
    let none : IsInfeasible c.args.draft = rw c.in-NoPoint.is at c.requires.end in
    infeasible_named c.args.program.now c.args.draft c.requires.step none

pub returns-in-NoPoint-clause-exact : goal.returns-in-NoPoint-clause-exact
returns-in-NoPoint-clause-exact c step =
    let none : IsInfeasible c.args.draft = rw c.in-NoPoint.is at c.requires.end in
    infeasible_named c.args.program.now c.args.draft c.requires.step none

pub returns-in-Ok-clause-right : goal.returns-in-Ok-clause-right
returns-in-Ok-clause-right c = grind (arith, common_steps)

pub compacted-requires-clause-rows : goal.compacted-requires-clause-rows
compacted-requires-clause-rows c = grind (arith, common_steps)

pub returns-in-Err-clause-exact : goal.returns-in-Err-clause-exact
returns-in-Err-clause-exact c = grind (arith, common_steps)

pub returns-in-Err-clause-right : goal.returns-in-Err-clause-right
returns-in-Err-clause-right c = grind (arith, common_steps)

pub compacted-requires-clause-step : goal.compacted-requires-clause-step
compacted-requires-clause-step c = grind (arith, common_steps)

pub returns-in-Ok-clause-exact : goal.returns-in-Ok-clause-exact
returns-in-Ok-clause-exact c = c.in-Ok.ensures.exact
