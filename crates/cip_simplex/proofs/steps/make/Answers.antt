use Rattle.std.proofs.lemmas.Grind.{common_steps}
use Rattle.std.proofs.Common.{arith}
use Rattle.cip_simplex.proofs.steps.make.Goals as goal

pub exchange-requires : goal.exchange-requires
exchange-requires c = grind (arith, common_steps)

pub returns-in-Err-OutOfRange : goal.returns-in-Err-OutOfRange
returns-in-Err-OutOfRange c = grind (arith, common_steps)

pub returns-in-Flip : goal.returns-in-Flip
returns-in-Flip c = grind (arith, common_steps)

pub returns-in-Ok : goal.returns-in-Ok
returns-in-Ok c = grind (arith, common_steps)

pub flip-requires : goal.flip-requires
flip-requires c = grind (arith, common_steps)
