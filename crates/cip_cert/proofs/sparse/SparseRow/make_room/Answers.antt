use Rattle.std.proofs.lemmas.Grind.{common_steps}
use Rattle.std.proofs.Common.{arith}
use Rattle.cip_cert.proofs.sparse.SparseRow.make_room.Goals as goal

pub invariant_of-self : goal.invariant_of-self
invariant_of-self c = grind (arith, common_steps)

pub returns-clause-entries : goal.returns-clause-entries
returns-clause-entries c = grind (arith, common_steps)

pub returns-clause-room : goal.returns-clause-room
returns-clause-room c = grind (arith, common_steps)

pub returns-then-len-clause-room : goal.returns-then-len-clause-room
returns-then-len-clause-room c = grind (arith, common_steps)

pub scan-requires-clause-room : goal.scan-requires-clause-room
scan-requires-clause-room c = grind (arith, common_steps)

pub scan-requires-clause-few : goal.scan-requires-clause-few
scan-requires-clause-few c = grind (arith, common_steps)

pub overflow_mul-len : goal.overflow_mul-len
overflow_mul-len c = grind (arith, common_steps)

pub scan-requires-clause-empty : goal.scan-requires-clause-empty
scan-requires-clause-empty c = grind (arith, common_steps)

pub returns-then-len-clause-entries : goal.returns-then-len-clause-entries
returns-then-len-clause-entries c = grind (arith, common_steps)
