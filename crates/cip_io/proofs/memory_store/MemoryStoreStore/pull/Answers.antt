use Rattle.std.proofs.lemmas.Grind.{common_steps}
use Rattle.std.proofs.Common.{arith}
use Rattle.cip_io.proofs.memory_store.MemoryStoreStore.pull.Goals as goal

pub returns-clause-later : goal.returns-clause-later
returns-clause-later c = grind (arith, common_steps)

pub returns-clause-count : goal.returns-clause-count
returns-clause-count c = grind (arith, common_steps)

pub returns-then-contains-clause-later : goal.returns-then-contains-clause-later
returns-then-contains-clause-later c = grind (arith, common_steps)

pub returns-clause-when : goal.returns-clause-when
returns-clause-when c = grind (arith, common_steps)

pub returns-clause-comes : goal.returns-clause-comes
returns-clause-comes c = grind (arith, common_steps)

pub returns-clause-ok : goal.returns-clause-ok
returns-clause-ok c = grind (arith, common_steps)

pub returns-then-contains-clause-when : goal.returns-then-contains-clause-when
returns-then-contains-clause-when c = grind (arith, common_steps)

pub returns-then-contains-clause-err : goal.returns-then-contains-clause-err
returns-then-contains-clause-err c = grind (arith, common_steps)

pub returns-clause-err : goal.returns-clause-err
returns-clause-err c = grind (arith, common_steps)

pub returns-then-contains-clause-count : goal.returns-then-contains-clause-count
returns-then-contains-clause-count c = grind (arith, common_steps)

pub returns-then-contains-clause-comes : goal.returns-then-contains-clause-comes
returns-then-contains-clause-comes c = grind (arith, common_steps)

pub returns-then-contains-clause-ok : goal.returns-then-contains-clause-ok
returns-then-contains-clause-ok c = grind (arith, common_steps)
