use Rattle.std.proofs.lemmas.Result.{IfOk-from_err}
use Rattle.std.proofs.lemmas.Grind.{common_steps}
use Rattle.std.proofs.Common.{arith}
use Rattle.cip_mps.proofs.program.keep_name.Goals as goal

pub returns-in_ok-add : goal.returns-in_ok-add
returns-in_ok-add c = grind (arith, common_steps)

pub add-requires : goal.add-requires
add-requires c = grind (arith, common_steps)

pub returns-else-not-free : goal.returns-else-not-free
returns-else-not-free c = grind (arith, common_steps)

pub returns-in_err-add : goal.returns-in_err-add
returns-in_err-add c = IfOk-from_err c.from_residual-in_err-add.result _ c.from_residual-in_err-add.ensures.0

pub returns-in_err-to_vec : goal.returns-in_err-to_vec
returns-in_err-to_vec c = IfOk-from_err c.from_residual.result _ c.from_residual.ensures.0
