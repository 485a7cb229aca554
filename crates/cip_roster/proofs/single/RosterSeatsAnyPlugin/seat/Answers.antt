use Rattle.std.proofs.lemmas.Grind.{common_steps}
use Rattle.std.proofs.Common.{ℕ, List, [], ◌∷◌, ◌++◌, ◌∙◌, ap, arith, refl}
use Rattle.cip_events.specs.Names.{shown_name}
use Rattle.cip_roster.proofs.Sitting.{pushed_shown}
use Rattle.cip_roster.proofs.single.RosterSeatsAnyPlugin.seat.Goals as goal

pub push_reserved-requires : goal.push_reserved-requires
push_reserved-requires g c = omega (arith, c.requires)

pub push_reserved-requires-2 : goal.push_reserved-requires-2
push_reserved-requires-2 g c = omega (arith, c.requires)

pub returns-clause-seats : goal.returns-clause-seats
returns-clause-seats g c = (_, record { holds = refl; standing = refl; offs = refl }, pushed_shown _ _ _ _ c.push_reserved-2.ensures.items)

pub returns-clause-names : goal.returns-clause-names
returns-clause-names g c =
    c.push_reserved.ensures.items
    ∙ ap (λ (name : List ℕ). c.args.self.now.names.items ++ name ∷ []) (c.of.ensures ∙ ap shown_name c.name.ensures)

pub returns-clause-places : goal.returns-clause-places
returns-clause-places g c = refl

pub returns-clause-lines : goal.returns-clause-lines
returns-clause-lines g c = refl

pub returns-clause-kept : goal.returns-clause-kept
returns-clause-kept g c = refl

pub returns-clause-room : goal.returns-clause-room
returns-clause-room g c = refl

pub returns-clause-spare : goal.returns-clause-spare
returns-clause-spare g c =
    omega (
      arith,
      c.requires,
      c.push_reserved.ensures.len,
      c.push_reserved.ensures.capacity,
      c.push_reserved-2.ensures.len,
      c.push_reserved-2.ensures.capacity,
    )

pub priority-priority-requires : goal.priority-priority-requires
priority-priority-requires g c = grind (arith, common_steps)

pub interest-interest-requires : goal.interest-interest-requires
interest-interest-requires g c = grind (arith, common_steps)

pub name-requires : goal.name-requires
name-requires g c = grind (arith, common_steps)
