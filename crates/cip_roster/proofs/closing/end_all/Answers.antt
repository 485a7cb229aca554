use Rattle.std.proofs.lemmas.Grind.{common_steps}
use Rattle.std.specs.Prelude.{slice_get}
use Rattle.std.proofs.Common.{◌≡◌, [], Bool, true, false, arith, cond, refl, subst, sym}
use Rattle.cip_plugin.specs.Steps.{Runs}
use Rattle.cip_plugin.specs.Wishing.{ends}
use Rattle.cip_roster.proofs.Ending.{closed_there, ended_all, ended_gone, ended_none, ended_one, gone_there}
use Rattle.cip_roster.proofs.Sounding.{sound_ended}
use Rattle.cip_roster.proofs.Wishes.{live_plays, live_room, lives_there}
use Rattle.cip_roster.proofs.closing.end_all.Goals as goal
use Rattle.cip_roster.proofs.closing.end_all.Goals.{in-Ok, in-Err}

pub loop-place-init : goal.loop-place-init
loop-place-init g c = record {
  so_far = ended_none (g.R.Seated.state c.args.roster.now) (g.R.Seated.room c.args.roster.now).lines
      c.requires.sound.lasts;
  sound = c.requires.sound;
}

pub end-requires-clause-at : goal.end-requires-clause-at
end-requires-clause-at g c =
    live_plays (g.R.Seated.state c.loop-place.roster) c.loop-place.place (g.R.Seated.room c.loop-place.roster)
    c.loop-place.invariant.sound c.in-Ok.ensures

pub end-requires-clause-room : goal.end-requires-clause-room
end-requires-clause-room g c =
    live_room (g.R.Seated.state c.loop-place.roster) c.loop-place.place (g.R.Seated.room c.loop-place.roster)
    c.loop-place.invariant.sound c.in-Ok.ensures

pub loop-place-preserved : goal.loop-place-preserved
loop-place-preserved g c =
    elim c.match-live.branch [
      | in-Ok w ↦
          let sound = sound_ended c.loop-place.place (g.R.Seated.state c.loop-place.roster)
          (g.R.Seated.state w.end.new.roster) (g.R.Seated.room c.loop-place.roster) (g.R.Seated.room w.end.new.roster)
          w.end.ensures.run c.loop-place.invariant.sound w.end.ensures.at w.end.ensures.room w.end.ensures.rankings in
          let lives : lives_there (slice_get (g.R.Seated.state c.loop-place.roster).seats c.loop-place.place) ≡ true =
          rw w.in-Ok.ensures.at w.in-Ok.ensures.lives in
          rw w.roster-is (record {
            so_far = ended_one c.loop-place.place (g.R.Seated.state c.args.roster.now)
                (g.R.Seated.state c.loop-place.roster) (g.R.Seated.state w.end.new.roster)
                (g.R.Seated.room c.loop-place.roster).lines (g.R.Seated.room w.end.new.roster)
                c.loop-place.invariant.so_far
                (omega (arith, c.loop-place-test.true, c.count-place-end.ensures, c.loop-place.invariant.so_far.count))
                (subst (λ (t : Bool). Runs (g.R.Seated.state c.loop-place.roster) (cond t (ends c.loop-place.place) [])
                (g.R.Seated.state w.end.new.roster)) (sym lives) w.end.ensures.run)
                (closed_there (g.R.Seated.state w.end.new.roster) c.loop-place.place w.end.ensures.at) sound;
            sound = sound;
          })
      | in-Err w ↦
          let gone : lives_there (slice_get (g.R.Seated.state c.loop-place.roster).seats c.loop-place.place) ≡ false =
          gone_there _ _ w.in-Err.ensures in
          rw w.roster-is (record {
            so_far = ended_one c.loop-place.place (g.R.Seated.state c.args.roster.now)
                (g.R.Seated.state c.loop-place.roster) (g.R.Seated.state c.loop-place.roster)
                (g.R.Seated.room c.loop-place.roster).lines (g.R.Seated.room c.loop-place.roster)
                c.loop-place.invariant.so_far
                (omega (arith, c.loop-place-test.true, c.count-place-end.ensures, c.loop-place.invariant.so_far.count))
                (subst (λ (t : Bool). Runs (g.R.Seated.state c.loop-place.roster) (cond t (ends c.loop-place.place) [])
                (g.R.Seated.state c.loop-place.roster)) (sym gone) refl)
                gone c.loop-place.invariant.sound;
            sound = c.loop-place.invariant.sound;
          })
    ]

pub returns-clause-run : goal.returns-clause-run
returns-clause-run g c =
    ended_all c.loop-place.place (g.R.Seated.state c.args.roster.now) (g.R.Seated.state c.loop-place.roster)
    (g.R.Seated.room c.loop-place.roster).lines (omega (arith, c.loop-place-test.false, c.count-place-end.ensures))
    c.loop-place.invariant.so_far

pub returns-clause-gone : goal.returns-clause-gone
returns-clause-gone g c =
    ended_gone c.loop-place.place (g.R.Seated.state c.args.roster.now) (g.R.Seated.state c.loop-place.roster)
    (g.R.Seated.room c.loop-place.roster).lines (omega (arith, c.loop-place-test.false, c.count-place-end.ensures))
    c.loop-place.invariant.so_far

pub returns-clause-places : goal.returns-clause-places
returns-clause-places g c = grind (arith, common_steps)

pub returns-clause-seats : goal.returns-clause-seats
returns-clause-seats g c = grind (arith, common_steps)

pub overflow_cast-place : goal.overflow_cast-place
overflow_cast-place g c = grind (arith, common_steps)

pub overflow_cast-place-in-Ok : goal.overflow_cast-place-in-Ok
overflow_cast-place-in-Ok g c = grind (arith, common_steps)
