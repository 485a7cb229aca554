use Rattle.std.proofs.lemmas.Grind.{common_steps}
use Rattle.std.proofs.Common.{rules, arith}
use Rattle.cip_roster.proofs.Coming.{turns_room}
use Rattle.cip_roster.proofs.single.RosterSteps.reserve_turns.Goals as goal

pub returns-in-Some-clause-room : goal.returns-in-Some-clause-room
returns-in-Some-clause-room g c =
    turns_room _ c.args.self.now.slots.items c.reserve.result c.args.turns c.len-seats.result c.in-Some.sum _ _
    c.reserve.ensures.ok c.in-Some.ensures.1 (search (rules, c.len-seats.ensures))

pub overflow_mul-sum : goal.overflow_mul-sum
overflow_mul-sum g c = omega arith

pub returns-in-Some-clause-grows : goal.returns-in-Some-clause-grows
returns-in-Some-clause-grows g c = omega arith

pub returns-in-Some-clause-state : goal.returns-in-Some-clause-state
returns-in-Some-clause-state g c = grind (arith, common_steps)

pub returns-in-Some-clause-rankings : goal.returns-in-Some-clause-rankings
returns-in-Some-clause-rankings g c = grind (arith, common_steps)

pub returns-in_default-2-clause-room : goal.returns-in_default-2-clause-room
returns-in_default-2-clause-room g c = grind (arith, common_steps)

pub returns-in_default-clause-room : goal.returns-in_default-clause-room
returns-in_default-clause-room g c = grind (arith, common_steps)

pub returns-in_default-clause-rankings : goal.returns-in_default-clause-rankings
returns-in_default-clause-rankings g c = grind (arith, common_steps)

pub returns-in_default-clause-state : goal.returns-in_default-clause-state
returns-in_default-clause-state g c = grind (arith, common_steps)

pub returns-in_default-2-clause-rankings : goal.returns-in_default-2-clause-rankings
returns-in_default-2-clause-rankings g c = grind (arith, common_steps)

pub returns-in_default-2-clause-state : goal.returns-in_default-2-clause-state
returns-in_default-2-clause-state g c = grind (arith, common_steps)

pub returns-in_default-clause-grows : goal.returns-in_default-clause-grows
returns-in_default-clause-grows g c = grind (arith, common_steps)

pub returns-in_default-2-clause-grows : goal.returns-in_default-2-clause-grows
returns-in_default-2-clause-grows g c = grind (arith, common_steps)
