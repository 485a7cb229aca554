use Rattle.std.proofs.lemmas.Grind.{common_steps}
use Rattle.std.proofs.Common.{arith, ap, map, refl}
use Rattle.cip_roster.specs.Shelves.{shown}
use Rattle.cip_roster.proofs.Ending.{many_held, many_seats, went_back}
use Rattle.cip_roster.proofs.rosters.Roster.close.Goals as goal

pub return_seated-requires-clause-numbers : goal.return_seated-requires-clause-numbers
return_seated-requires-clause-numbers g c =
    omega (
      arith,
      c.requires.sound.numbers,
      many_seats _ c.end_all.new.roster.slots.items _ c.end_all.ensures.seats,
    )

pub return_seated-requires-clause-room : goal.return_seated-requires-clause-room
return_seated-requires-clause-room g c =
    omega (arith, c.requires.room, many_seats _ c.end_all.new.roster.slots.items _ c.end_all.ensures.seats)

pub return_shelved-requires : goal.return_shelved-requires
return_shelved-requires g c =
    omega (
      arith,
      c.requires.room,
      c.return_seated.ensures.length,
      c.return_seated.ensures.capacity,
      many_seats _ c.end_all.new.roster.slots.items _ c.end_all.ensures.seats,
      many_held _ c.end_all.new.roster.shelf.items _ c.end_all.ensures.places,
    )

pub returns-clause-closed : goal.returns-clause-closed
returns-clause-closed g c = record {
  end = _;
  run = c.end_all.ensures.run;
  gone = c.end_all.ensures.gone;
  spent = went_back _ _ _ _ _ c.end_all.new.roster.slots.items c.end_all.new.roster.shelf.items _ _ _ _ (λ id x. refl)
      (λ id x. refl) c.end_all.ensures.places c.return_seated.ensures.moved c.return_shelved.ensures.moved;
  seats = ap (map _) c.return_seated.ensures.none;
  places = ap (map (shown _)) c.return_shelved.ensures.none;
  names = refl;
  lines = refl;
  kept = refl;
}

pub end_all-requires : goal.end_all-requires
end_all-requires g c = grind (arith, common_steps)

pub returns-clause-shelf : goal.returns-clause-shelf
returns-clause-shelf g c = grind (arith, common_steps)

pub returns-clause-start : goal.returns-clause-start
returns-clause-start g c = grind (arith, common_steps)
