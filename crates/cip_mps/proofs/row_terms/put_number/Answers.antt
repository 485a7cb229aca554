use Rattle.std.proofs.lemmas.Result.{IfOk-from_err}
use Rattle.std.proofs.lemmas.Grind.{common_steps}
use Rattle.std.proofs.Common.{arith}
use Rattle.cip_mps.proofs.row_terms.put_number.Goals as goal

pub returns-else-place-len : goal.returns-else-place-len
returns-else-place-len c = grind (arith, common_steps)

pub returns-in_ok-append : goal.returns-in_ok-append
returns-in_ok-append c = grind (arith, common_steps)

pub index_mut-row-requires : goal.index_mut-row-requires
index_mut-row-requires c = grind (arith, common_steps)

pub returns-in_err-append : goal.returns-in_err-append
returns-in_err-append c = IfOk-from_err c.from_residual.result _ c.from_residual.ensures.0
