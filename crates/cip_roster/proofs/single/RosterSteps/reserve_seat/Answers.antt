use Rattle.std.proofs.lemmas.Grind.{common_steps}
use Rattle.std.proofs.Common.{arith}
use Rattle.cip_roster.proofs.single.RosterSteps.reserve_seat.Goals as goal

pub returns-clause-grows : goal.returns-clause-grows
returns-clause-grows c = omega arith

pub returns-clause-room : goal.returns-clause-room
returns-clause-room c = grind (arith, common_steps)

pub returns-clause-state : goal.returns-clause-state
returns-clause-state c = grind (arith, common_steps)

pub returns-in_default-clause-grows : goal.returns-in_default-clause-grows
returns-in_default-clause-grows c = omega arith

pub returns-clause-seat : goal.returns-clause-seat
returns-clause-seat c = grind (arith, common_steps)

pub returns-clause-rankings : goal.returns-clause-rankings
returns-clause-rankings c = grind (arith, common_steps)

pub returns-in_default-clause-state : goal.returns-in_default-clause-state
returns-in_default-clause-state c = grind (arith, common_steps)

pub returns-in_default-clause-rankings : goal.returns-in_default-clause-rankings
returns-in_default-clause-rankings c = grind (arith, common_steps)

pub returns-in_default-clause-room : goal.returns-in_default-clause-room
returns-in_default-clause-room c = grind (arith, common_steps)

pub returns-in_default-clause-seat : goal.returns-in_default-clause-seat
returns-in_default-clause-seat c = grind (arith, common_steps)

pub reserve_turns-requires : goal.reserve_turns-requires
reserve_turns-requires c = grind (arith, common_steps)

pub returns-in_default-reserve-clause-state : goal.returns-in_default-reserve-clause-state
returns-in_default-reserve-clause-state c = grind (arith, common_steps)

pub returns-in_default-reserve-clause-grows : goal.returns-in_default-reserve-clause-grows
returns-in_default-reserve-clause-grows c = grind (arith, common_steps)

pub returns-in_default-reserve-clause-rankings : goal.returns-in_default-reserve-clause-rankings
returns-in_default-reserve-clause-rankings c = grind (arith, common_steps)

pub returns-in_default-reserve-clause-room : goal.returns-in_default-reserve-clause-room
returns-in_default-reserve-clause-room c = grind (arith, common_steps)

pub returns-in_default-reserve-clause-seat : goal.returns-in_default-reserve-clause-seat
returns-in_default-reserve-clause-seat c = grind (arith, common_steps)
