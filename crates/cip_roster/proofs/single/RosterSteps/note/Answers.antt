use Rattle.std.proofs.lemmas.Grind.{common_steps}
use Rattle.std.proofs.Common.{refl, arith}
use Rattle.cip_roster.proofs.single.RosterSteps.note.Goals as goal

pub returns-then-self-clause-seats : goal.returns-then-self-clause-seats
returns-then-self-clause-seats g c = refl

pub returns-then-self-clause-places : goal.returns-then-self-clause-places
returns-then-self-clause-places g c = refl

pub returns-then-self-clause-names : goal.returns-then-self-clause-names
returns-then-self-clause-names g c = refl

pub returns-then-self-clause-kept : goal.returns-then-self-clause-kept
returns-then-self-clause-kept g c = refl

pub returns-then-self-clause-rankings : goal.returns-then-self-clause-rankings
returns-then-self-clause-rankings g c = refl

pub returns-then-self-clause-room : goal.returns-then-self-clause-room
returns-then-self-clause-room g c = omega arith

pub returns-else-self-clause-seats : goal.returns-else-self-clause-seats
returns-else-self-clause-seats g c = refl

pub returns-else-self-clause-places : goal.returns-else-self-clause-places
returns-else-self-clause-places g c = refl

pub returns-else-self-clause-names : goal.returns-else-self-clause-names
returns-else-self-clause-names g c = refl

pub returns-else-self-clause-kept : goal.returns-else-self-clause-kept
returns-else-self-clause-kept g c = refl

pub returns-else-self-clause-rankings : goal.returns-else-self-clause-rankings
returns-else-self-clause-rankings g c = refl

pub returns-else-self-clause-room : goal.returns-else-self-clause-room
returns-else-self-clause-room g c = omega arith

pub push_reserved-requires : goal.push_reserved-requires
push_reserved-requires g c = omega arith

pub returns-then-self-clause-lines : goal.returns-then-self-clause-lines
returns-then-self-clause-lines g c = grind (arith, common_steps)

pub returns-else-self-clause-lines : goal.returns-else-self-clause-lines
returns-else-self-clause-lines g c = grind (arith, common_steps)
