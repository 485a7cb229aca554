use Rattle.std.proofs.Common.{◌∙◌, ap, arith, refl}
use Rattle.cip_roster.specs.KeptRankings.{Room}
use Rattle.cip_roster.proofs.Coming.{came_fresh, came_shown, place_holds, place_within}
use Rattle.cip_roster.proofs.single.RosterSteps.come.Goals as goal

pub index_mut-requires : goal.index_mut-requires
index_mut-requires g c =
    place_within _ c.args.self.now.shelf.items c.args.place _ c.args.self.now.shelf.ok.0 c.requires.held

pub unreachable-requires : goal.unreachable-requires
unreachable-requires g c =
    place_holds _ c.args.self.now.shelf.items c.args.place c.index_mut.result.now c.replace.result c.requires.held
    c.index_mut.ensures.value c.replace.ensures.value c.in-None.is

pub seat-requires : goal.seat-requires
seat-requires g c = omega (arith, c.requires.seat.0, c.requires.seat.1)

pub returns-clause-run : goal.returns-clause-run
returns-clause-run g c =
    came_shown _ c.args.self.now.shelf.items c.args.place c.index_mut.result.now c.replace.result c.replace.new.dest
    c.in-Some.plugin _ _ refl c.requires.held c.index_mut.ensures.value c.replace.ensures.value c.in-Some.is
    c.replace.ensures.after c.seat.ensures.places c.seat.ensures.seats c.seat.ensures.names
    c.seat.ensures.kept
    c.seat.ensures.lines

pub returns-clause-at : goal.returns-clause-at
returns-clause-at g c =
    came_fresh _ _ _ c.seat.ensures.seats.0 c.seat.ensures.seats.1 c.seat.ensures.seats.2

pub returns-clause-room : goal.returns-clause-room
returns-clause-room g c = ap (λ (room : Room). room.lines) c.seat.ensures.room

pub returns-clause-rankings : goal.returns-clause-rankings
returns-clause-rankings g c = ap (λ (room : Room). room.rankings) c.seat.ensures.room ∙ c.clear.ensures

pub unreachable-unreachable : goal.unreachable-unreachable
unreachable-unreachable g c = omega arith
