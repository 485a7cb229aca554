use Rattle.std.proofs.lemmas.Grind.{common_steps}
use Rattle.std.proofs.Common.{arith}
use Rattle.cip_roster.proofs.starting.make_room.Goals as goal

pub overflow_mul-start : goal.overflow_mul-start
overflow_mul-start g c = omega arith

pub returns-clause-lines : goal.returns-clause-lines
returns-clause-lines g c = grind (arith, common_steps)

pub returns-clause-names : goal.returns-clause-names
returns-clause-names g c = grind (arith, common_steps)

pub returns-clause-shelf : goal.returns-clause-shelf
returns-clause-shelf g c = grind (arith, common_steps)

pub returns-clause-slots : goal.returns-clause-slots
returns-clause-slots g c = grind (arith, common_steps)

pub returns-clause-stays : goal.returns-clause-stays
returns-clause-stays g c = grind (arith, common_steps)

pub returns-in_default-clause-stays : goal.returns-in_default-clause-stays
returns-in_default-clause-stays g c = grind (arith, common_steps)

pub returns-in_default-reserve-2-clause-stays : goal.returns-in_default-reserve-2-clause-stays
returns-in_default-reserve-2-clause-stays g c = grind (arith, common_steps)

pub returns-in_default-reserve-clause-stays : goal.returns-in_default-reserve-clause-stays
returns-in_default-reserve-clause-stays g c = grind (arith, common_steps)

pub returns-in_default-reserve-2-clause-lines : goal.returns-in_default-reserve-2-clause-lines
returns-in_default-reserve-2-clause-lines g c = grind (arith, common_steps)

pub returns-in_default-reserve-2-clause-shelf : goal.returns-in_default-reserve-2-clause-shelf
returns-in_default-reserve-2-clause-shelf g c = grind (arith, common_steps)

pub returns-in_default-reserve-2-clause-names : goal.returns-in_default-reserve-2-clause-names
returns-in_default-reserve-2-clause-names g c = grind (arith, common_steps)

pub returns-in_default-reserve-2-clause-slots : goal.returns-in_default-reserve-2-clause-slots
returns-in_default-reserve-2-clause-slots g c = grind (arith, common_steps)

pub returns-in_default-reserve-clause-lines : goal.returns-in_default-reserve-clause-lines
returns-in_default-reserve-clause-lines g c = grind (arith, common_steps)

pub returns-in_default-reserve-clause-shelf : goal.returns-in_default-reserve-clause-shelf
returns-in_default-reserve-clause-shelf g c = grind (arith, common_steps)

pub returns-in_default-reserve-clause-names : goal.returns-in_default-reserve-clause-names
returns-in_default-reserve-clause-names g c = grind (arith, common_steps)

pub returns-in_default-reserve-clause-slots : goal.returns-in_default-reserve-clause-slots
returns-in_default-reserve-clause-slots g c = grind (arith, common_steps)

pub returns-in_default-clause-lines : goal.returns-in_default-clause-lines
returns-in_default-clause-lines g c = grind (arith, common_steps)

pub returns-in_default-clause-shelf : goal.returns-in_default-clause-shelf
returns-in_default-clause-shelf g c = grind (arith, common_steps)

pub returns-in_default-clause-names : goal.returns-in_default-clause-names
returns-in_default-clause-names g c = grind (arith, common_steps)

pub returns-in_default-clause-slots : goal.returns-in_default-clause-slots
returns-in_default-clause-slots g c = grind (arith, common_steps)
