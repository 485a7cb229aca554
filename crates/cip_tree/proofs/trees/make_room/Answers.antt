use Rattle.std.proofs.lemmas.Grind.{common_steps}
use Rattle.std.proofs.Common.{arith}
use Rattle.std.proofs.lemmas.Result.{IfOk-from_err}
use Rattle.cip_tree.proofs.trees.make_room.Goals as goal

pub returns-clause-queue : goal.returns-clause-queue
returns-clause-queue c = grind (arith, common_steps)

pub returns-clause-kept : goal.returns-clause-kept
returns-clause-kept c = grind (arith, common_steps)

pub returns-clause-room : goal.returns-clause-room
returns-clause-room c = grind (arith, common_steps)

pub overflow_add-len-2 : goal.overflow_add-len-2
overflow_add-len-2 c = grind (arith, common_steps)

pub overflow_add-len : goal.overflow_add-len
overflow_add-len c = grind (arith, common_steps)

pub overflow_add-len-4 : goal.overflow_add-len-4
overflow_add-len-4 c = grind (arith, common_steps)

pub overflow_add-len-3 : goal.overflow_add-len-3
overflow_add-len-3 c = grind (arith, common_steps)

pub returns-clause-grows : goal.returns-clause-grows
returns-clause-grows c = grind (arith, common_steps)

pub returns-clause-parked : goal.returns-clause-parked
returns-clause-parked c = grind (arith, common_steps)

pub returns-clause-log : goal.returns-clause-log
returns-clause-log c = grind (arith, common_steps)

pub returns-in_err-reserve-3-clause-grows : goal.returns-in_err-reserve-3-clause-grows
returns-in_err-reserve-3-clause-grows c = grind (arith, common_steps)

pub returns-in_err-reserve-3-clause-kept : goal.returns-in_err-reserve-3-clause-kept
returns-in_err-reserve-3-clause-kept c = grind (arith, common_steps)

pub returns-in_err-reserve-3-clause-queue : goal.returns-in_err-reserve-3-clause-queue
returns-in_err-reserve-3-clause-queue c = grind (arith, common_steps)

pub returns-in_err-reserve-3-clause-parked : goal.returns-in_err-reserve-3-clause-parked
returns-in_err-reserve-3-clause-parked c = grind (arith, common_steps)

pub returns-in_err-reserve-3-clause-log : goal.returns-in_err-reserve-3-clause-log
returns-in_err-reserve-3-clause-log c = grind (arith, common_steps)

pub overflow_add-in_work : goal.overflow_add-in_work
overflow_add-in_work c = grind (arith, common_steps)

pub returns-in_err-reserve-2-clause-kept : goal.returns-in_err-reserve-2-clause-kept
returns-in_err-reserve-2-clause-kept c = grind (arith, common_steps)

pub returns-in_err-reserve-2-clause-grows : goal.returns-in_err-reserve-2-clause-grows
returns-in_err-reserve-2-clause-grows c = grind (arith, common_steps)

pub returns-in_err-reserve-2-clause-queue : goal.returns-in_err-reserve-2-clause-queue
returns-in_err-reserve-2-clause-queue c = grind (arith, common_steps)

pub returns-in_err-reserve-2-clause-log : goal.returns-in_err-reserve-2-clause-log
returns-in_err-reserve-2-clause-log c = grind (arith, common_steps)

pub returns-in_err-reserve-2-clause-parked : goal.returns-in_err-reserve-2-clause-parked
returns-in_err-reserve-2-clause-parked c = grind (arith, common_steps)

pub returns-in_err-reserve-clause-kept : goal.returns-in_err-reserve-clause-kept
returns-in_err-reserve-clause-kept c = grind (arith, common_steps)

pub returns-in_err-reserve-clause-grows : goal.returns-in_err-reserve-clause-grows
returns-in_err-reserve-clause-grows c = grind (arith, common_steps)

pub returns-in_err-reserve-clause-log : goal.returns-in_err-reserve-clause-log
returns-in_err-reserve-clause-log c = grind (arith, common_steps)

pub returns-in_err-reserve-clause-parked : goal.returns-in_err-reserve-clause-parked
returns-in_err-reserve-clause-parked c = grind (arith, common_steps)

pub returns-in_err-reserve-clause-queue : goal.returns-in_err-reserve-clause-queue
returns-in_err-reserve-clause-queue c = grind (arith, common_steps)

pub returns-in_err-reserve-3-clause-room : goal.returns-in_err-reserve-3-clause-room
returns-in_err-reserve-3-clause-room c = IfOk-from_err c.from_residual-in_err-reserve-3.result _
    c.from_residual-in_err-reserve-3.ensures.0
