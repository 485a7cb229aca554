use Rattle.std.proofs.lemmas.Grind.{common_steps}
use Rattle.std.proofs.Common.{arith, ap, refl, ◌∙◌}
use Rattle.cip_plugin.specs.Seats.{held_count}
use Rattle.cip_roster.specs.KeptRankings.{Room}
use Rattle.cip_roster.proofs.Beginning.{begun_sound, begun_with_all, seated_count, seated_fresh}
use Rattle.cip_roster.proofs.starting.admit.Goals as goal

pub begin_all-requires-clause-fresh : goal.begin_all-requires-clause-fresh
begin_all-requires-clause-fresh g c = seated_fresh _ _ c.seat_all.ensures.seats

pub begin_all-requires-clause-numbers : goal.begin_all-requires-clause-numbers
begin_all-requires-clause-numbers g c =
    omega (
      arith,
      c.requires.numbers,
      seated_count g.P.Tells.who c.args.plugins.now.items _ _ c.seat_all.ensures.seats refl,
    )

pub begin_all-requires-clause-room : goal.begin_all-requires-clause-room
begin_all-requires-clause-room g c =
    omega (
      arith,
      c.requires.room,
      ap (λ (r : Room). r.lines) c.seat_all.ensures.room,
      seated_count g.P.Tells.who c.args.plugins.now.items _ _ c.seat_all.ensures.seats refl,
    )

pub returns-clause-begun : goal.returns-clause-begun
returns-clause-begun g c =
    λ shelf shelved. begun_with_all _ shelf _ (g.R.Seated.state c.args.roster.now) (g.R.Seated.state
    c.seat_all.new.roster)
    (g.R.Seated.state c.begin_all.new.roster) c.seat_all.ensures.seats c.seat_all.ensures.names
    c.seat_all.ensures.places c.seat_all.ensures.lines c.seat_all.ensures.kept c.requires.unwritten refl
    c.begin_all.ensures.run shelved

pub returns-clause-sound : goal.returns-clause-sound
returns-clause-sound g c =
    let count = seated_count g.P.Tells.who c.args.plugins.now.items _ _ c.seat_all.ensures.seats
    c.begin_all.ensures.seats in
    let own = seated_count g.P.Tells.who c.args.plugins.now.items _ _ c.seat_all.ensures.seats refl in
    let first = ap held_count c.seat_all.ensures.places in
    let second = ap held_count c.begin_all.ensures.places in
    begun_sound (g.R.Seated.state c.begin_all.new.roster) (g.R.Seated.room c.begin_all.new.roster)
    c.begin_all.ensures.playing (omega (arith, count, first, second, c.requires.numbers))
    (omega (arith, count, own, c.begin_all.ensures.room))
    (c.begin_all.ensures.rankings ∙ ap (λ (r : Room). r.rankings) c.seat_all.ensures.room ∙ c.requires.unranked)

pub returns-clause-seats : goal.returns-clause-seats
returns-clause-seats g c =
    seated_count g.P.Tells.who c.args.plugins.now.items _ _ c.seat_all.ensures.seats c.begin_all.ensures.seats

pub returns-clause-none : goal.returns-clause-none
returns-clause-none g c = grind (arith, common_steps)

pub returns-clause-places : goal.returns-clause-places
returns-clause-places g c = grind (arith, common_steps)

pub seat_all-requires-clause-unnamed : goal.seat_all-requires-clause-unnamed
seat_all-requires-clause-unnamed g c = grind (arith, common_steps)

pub seat_all-requires-clause-first : goal.seat_all-requires-clause-first
seat_all-requires-clause-first g c = grind (arith, common_steps)

pub seat_all-requires-clause-spare : goal.seat_all-requires-clause-spare
seat_all-requires-clause-spare g c = grind (arith, common_steps)
