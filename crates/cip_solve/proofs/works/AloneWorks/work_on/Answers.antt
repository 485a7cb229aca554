use Rattle.std.proofs.lemmas.Grind.{common_steps}
use Rattle.std.proofs.Common.{refl, arith}
use Rattle.cip_solve.specs.Steps.{IsBack}
use Rattle.cip_solve.proofs.Serving.{nobody_each}
use Rattle.cip_solve.proofs.Working.{all_worked}
use Rattle.cip_solve.proofs.works.AloneWorks.work_on.Goals as goal

pub returns-clause-ended : goal.returns-clause-ended
returns-clause-ended c =
    let node = c.args.node in
    let new = c.process.new.self.core in
    all_worked c.args.work.now.core new node c.process.result (IsBack c.args.work.now.core new node.number node.bound) c.process.ensures.ended

pub returns-clause-served : goal.returns-clause-served
returns-clause-served c = nobody_each c.process.result _ refl

pub returns-clause-settled : goal.returns-clause-settled
returns-clause-settled c = grind (arith, common_steps)

pub returns-clause-plain : goal.returns-clause-plain
returns-clause-plain c = grind (arith, common_steps)

pub process-requires : goal.process-requires
process-requires c = grind (arith, common_steps)
