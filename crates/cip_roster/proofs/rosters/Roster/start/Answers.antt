use Rattle.std.proofs.lemmas.Grind.{common_steps}
use Rattle.std.proofs.Common.{◌∙◌, arith, refl}
use Rattle.cip_roster.proofs.Beginning.{begun_kept, same_most, same_room, shelf_held}
use Rattle.cip_roster.proofs.rosters.Roster.start.Goals as goal

pub returns-clause-begun : goal.returns-clause-begun
returns-clause-begun g c =
    begun_kept _ _ _ _ _ c.in-Ok-empty.ensures.kept (c.admit.ensures.begun _ c.in-Ok-empty.ensures.places)

pub returns-clause-plugins : goal.returns-clause-plugins
returns-clause-plugins g c =
    omega (
      arith,
      c.admit.ensures.seats,
      shelf_held _ c.args.kit.now.shelf.items _ (c.admit.ensures.places ∙ c.in-Ok-empty.ensures.places),
    )

pub admit-requires-clause-spare : goal.admit-requires-clause-spare
admit-requires-clause-spare g c =
    same_most _ _ _ (c.len-start.ensures ∙ c.args.kit.now.start.ok.0) c.in-Ok-empty.ensures.spare

pub admit-requires-clause-room : goal.admit-requires-clause-room
admit-requires-clause-room g c =
    same_room _ _ _ (c.len-start.ensures ∙ c.args.kit.now.start.ok.0) c.in-Ok-empty.ensures.room

pub admit-requires-clause-first : goal.admit-requires-clause-first
admit-requires-clause-first g c = c.in-Ok-empty.ensures.seats

pub admit-requires-clause-unnamed : goal.admit-requires-clause-unnamed
admit-requires-clause-unnamed g c = c.in-Ok-empty.ensures.unnamed

pub admit-requires-clause-unwritten : goal.admit-requires-clause-unwritten
admit-requires-clause-unwritten g c = c.in-Ok-empty.ensures.lines

pub admit-requires-clause-unranked : goal.admit-requires-clause-unranked
admit-requires-clause-unranked g c = c.in-Ok-empty.ensures.unranked

pub returns-clause-sound : goal.returns-clause-sound
returns-clause-sound g c = c.admit.ensures.sound

pub returns-clause-moved : goal.returns-clause-moved
returns-clause-moved g c = (c.admit.ensures.none, c.in-Ok-empty.ensures.none)

pub returns-clause-spent : goal.returns-clause-spent
returns-clause-spent g c = c.reserve.ensures.items

pub returns-in_default-clause-begun : goal.returns-in_default-clause-begun
returns-in_default-clause-begun g c = tt

pub returns-in_default-clause-sound : goal.returns-in_default-clause-sound
returns-in_default-clause-sound g c = tt

pub returns-in_default-clause-room : goal.returns-in_default-clause-room
returns-in_default-clause-room g c = tt

pub returns-in_default-clause-plugins : goal.returns-in_default-clause-plugins
returns-in_default-clause-plugins g c = tt

pub returns-in_default-clause-moved : goal.returns-in_default-clause-moved
returns-in_default-clause-moved g c = tt

pub returns-in_default-clause-spent : goal.returns-in_default-clause-spent
returns-in_default-clause-spent g c = c.reserve.ensures.items

pub returns-in_default-clause-err : goal.returns-in_default-clause-err
returns-in_default-clause-err g c = (refl, refl)

pub returns-in_default-empty-clause-begun : goal.returns-in_default-empty-clause-begun
returns-in_default-empty-clause-begun g c = tt

pub returns-in_default-empty-clause-sound : goal.returns-in_default-empty-clause-sound
returns-in_default-empty-clause-sound g c = tt

pub returns-in_default-empty-clause-room : goal.returns-in_default-empty-clause-room
returns-in_default-empty-clause-room g c = tt

pub returns-in_default-empty-clause-plugins : goal.returns-in_default-empty-clause-plugins
returns-in_default-empty-clause-plugins g c = tt

pub returns-in_default-empty-clause-moved : goal.returns-in_default-empty-clause-moved
returns-in_default-empty-clause-moved g c = tt

pub returns-in_default-empty-clause-spent : goal.returns-in_default-empty-clause-spent
returns-in_default-empty-clause-spent g c = c.reserve.ensures.items

pub returns-in_default-empty-clause-err : goal.returns-in_default-empty-clause-err
returns-in_default-empty-clause-err g c = (refl, c.in_default-empty.ensures.err)

pub returns-clause-err : goal.returns-clause-err
returns-clause-err g c = tt

pub empty-requires : goal.empty-requires
empty-requires g c = omega arith

pub overflow_add-start : goal.overflow_add-start
overflow_add-start g c = omega arith

pub admit-requires-clause-numbers : goal.admit-requires-clause-numbers
admit-requires-clause-numbers g c =
    omega (
      arith,
      c.requires,
      shelf_held _ c.args.kit.now.shelf.items _ c.in-Ok-empty.ensures.places,
    )

pub returns-clause-room : goal.returns-clause-room
returns-clause-room g c = grind (arith, common_steps)
