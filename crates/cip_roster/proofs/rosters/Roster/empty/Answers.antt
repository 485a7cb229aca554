use Rattle.std.proofs.lemmas.Grind.{common_steps}
use Rattle.std.proofs.Common.{◌∙◌, ap, map, arith, refl}
use Rattle.cip_roster.proofs.Beginning.{shelf_places}
use Rattle.cip_roster.proofs.rosters.Roster.empty.Goals as goal

pub returns-clause-seats : goal.returns-clause-seats
returns-clause-seats g c = ap (map _) (c.make_room.ensures.stays.0 ∙ c.new-slots.ensures.items)

pub returns-clause-places : goal.returns-clause-places
returns-clause-places g c =
    shelf_places _ c.args.shelf.now.items _ _ (c.make_room.ensures.stays.1 ∙ c.new-places.ensures.items)
    c.shelve.ensures.moved

pub returns-clause-unnamed : goal.returns-clause-unnamed
returns-clause-unnamed g c = c.make_room.ensures.stays.2 ∙ c.new-names.ensures.items

pub returns-clause-lines : goal.returns-clause-lines
returns-clause-lines g c = c.make_room.ensures.stays.3 ∙ c.new-lines.ensures.items

pub returns-clause-kept : goal.returns-clause-kept
returns-clause-kept g c = refl

pub returns-clause-spare : goal.returns-clause-spare
returns-clause-spare g c = grind (arith, common_steps)

pub returns-clause-room : goal.returns-clause-room
returns-clause-room g c = grind (arith, common_steps)

pub returns-clause-unranked : goal.returns-clause-unranked
returns-clause-unranked g c = grind (arith, common_steps)

pub make_room-requires : goal.make_room-requires
make_room-requires g c = grind (arith, common_steps)

pub shelve-requires : goal.shelve-requires
shelve-requires g c = grind (arith, common_steps)

pub returns-clause-none : goal.returns-clause-none
returns-clause-none g c = c.shelve.ensures.none

pub returns-clause-err : goal.returns-clause-err
returns-clause-err g c = tt

pub returns-in_default-clause-err : goal.returns-in_default-clause-err
returns-in_default-clause-err g c = refl

pub returns-in_default-clause-seats : goal.returns-in_default-clause-seats
returns-in_default-clause-seats g c = tt

pub returns-in_default-clause-places : goal.returns-in_default-clause-places
returns-in_default-clause-places g c = tt

pub returns-in_default-clause-unnamed : goal.returns-in_default-clause-unnamed
returns-in_default-clause-unnamed g c = tt

pub returns-in_default-clause-lines : goal.returns-in_default-clause-lines
returns-in_default-clause-lines g c = tt

pub returns-in_default-clause-kept : goal.returns-in_default-clause-kept
returns-in_default-clause-kept g c = tt

pub returns-in_default-clause-spare : goal.returns-in_default-clause-spare
returns-in_default-clause-spare g c = tt

pub returns-in_default-clause-room : goal.returns-in_default-clause-room
returns-in_default-clause-room g c = tt

pub returns-in_default-clause-unranked : goal.returns-in_default-clause-unranked
returns-in_default-clause-unranked g c = tt

pub returns-in_default-clause-none : goal.returns-in_default-clause-none
returns-in_default-clause-none g c = tt
