use Rattle.std.proofs.lemmas.Grind.{common_steps}
use Rattle.std.proofs.Common.{arith}
use Rattle.cip_main.proofs.solving.tell.Goals as goal

pub returns-in-Err : goal.returns-in-Err
returns-in-Err g c = grind (arith, common_steps)

pub returns-in-Ok : goal.returns-in-Ok
returns-in-Ok g c = grind (arith, common_steps)

pub report-requires : goal.report-requires
report-requires g c = grind (arith, common_steps)
