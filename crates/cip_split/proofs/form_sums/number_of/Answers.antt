use Rattle.std.proofs.lemmas.Grind.{common_steps}
use Rattle.std.proofs.Common.{arith}
use Rattle.cip_split.proofs.form_sums.number_of.Goals as goal

pub returns-in-Ok : goal.returns-in-Ok
returns-in-Ok c = grind (arith, common_steps)

pub returns-in-Err : goal.returns-in-Err
returns-in-Err c = grind (arith, common_steps)

pub returns-then-number-eqminus170141183460469231731687303715884105728 : goal.returns-then-number-eqminus170141183460469231731687303715884105728
returns-then-number-eqminus170141183460469231731687303715884105728 c = grind (arith, common_steps)
