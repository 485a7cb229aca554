use Rattle.std.proofs.lemmas.Grind.{common_steps}
use Rattle.cip_roster.proofs.Sounding.{sound_ended}
use Rattle.cip_roster.proofs.Wishes.{fine_live, freed_once, live_plays, live_room}
use Rattle.std.proofs.Common.{inl, refl, arith}
use Rattle.cip_roster.proofs.wishing.free.Goals as goal

pub end-requires-clause-room : goal.end-requires-clause-room
end-requires-clause-room g c =
    live_room (g.R.Seated.state c.args.roster.now) c.args.id (g.R.Seated.room c.args.roster.now) c.requires.sound
    c.in_ok-live.ensures

pub returns-clause-sound : goal.returns-clause-sound
returns-clause-sound g c =
    sound_ended c.args.id (g.R.Seated.state c.args.roster.now) (g.R.Seated.state c.end.new.roster)
    (g.R.Seated.room c.args.roster.now) (g.R.Seated.room c.end.new.roster) c.end.ensures.run c.requires.sound
    c.end.ensures.at c.end.ensures.room c.end.ensures.rankings

pub end-requires-clause-at : goal.end-requires-clause-at
end-requires-clause-at g c =
    live_plays (g.R.Seated.state c.args.roster.now) c.args.id (g.R.Seated.room c.args.roster.now) c.requires.sound
    c.in_ok-live.ensures

pub returns-clause-came : goal.returns-clause-came
returns-clause-came g c = record {
  granted = freed_once (g.R.Seated.state c.args.roster.now) (g.R.Seated.state c.end.new.roster) c.args.id
      c.end.ensures.run;
  fine = fine_live (g.R.Seated.state c.args.roster.now) c.args.id c.in_ok-live.ensures;
}

pub returns-in_default-clause-came : goal.returns-in_default-clause-came
returns-in_default-clause-came g c = record { cause = inl refl; same = refl }

pub returns-in_default-clause-sound : goal.returns-in_default-clause-sound
returns-in_default-clause-sound g c = c.requires.sound

pub returns-in_err-live-clause-sound : goal.returns-in_err-live-clause-sound
returns-in_err-live-clause-sound g c = c.requires.sound

pub returns-clause-queue : goal.returns-clause-queue
returns-clause-queue g c = grind (arith, common_steps)

pub returns-in_default-clause-queue : goal.returns-in_default-clause-queue
returns-in_default-clause-queue g c = grind (arith, common_steps)

pub returns-in_err-live-clause-queue : goal.returns-in_err-live-clause-queue
returns-in_err-live-clause-queue g c = grind (arith, common_steps)
