use Rattle.std.proofs.lemmas.Grind.{common_steps}
use Rattle.std.proofs.Common.{[], ◌∷◌, subst, refl, arith}
use Rattle.std.specs.Prelude.{ℤ}
use Rattle.std.proofs.Math.Facts.{to_z-of_z}
use Rattle.cip_plugin.specs.Steps.{Ranks, Runs}
use Rattle.cip_roster.proofs.Sounding.{sound_still}
use Rattle.cip_roster.proofs.Wishes.{live_plays}
use Rattle.cip_roster.proofs.wishing.rank.Goals as goal

pub returns-clause-sound : goal.returns-clause-sound
returns-clause-sound g c =
    sound_still c.args.id (Ranks c.args.id c.args.priority) (g.R.Seated.state c.args.roster.now)
    (g.R.Seated.state c.set_priority.new.self) (g.R.Seated.room c.args.roster.now)
    (g.R.Seated.room c.set_priority.new.self) refl refl
    (subst (λ (p : ℤ). Runs (g.R.Seated.state c.args.roster.now) (Ranks c.args.id p ∷ [])
    (g.R.Seated.state c.set_priority.new.self)) (to_z-of_z c.ranges.priority) c.set_priority.ensures.run)
    c.requires.sound
    c.set_priority.ensures.at (omega (arith, c.requires.sound.lasts, c.set_priority.ensures.room))
    c.set_priority.ensures.rankings

pub returns-in_err-live-clause-sound : goal.returns-in_err-live-clause-sound
returns-in_err-live-clause-sound g c = c.requires.sound

pub set_priority-requires : goal.set_priority-requires
set_priority-requires g c = record {
  at = live_plays (g.R.Seated.state c.args.roster.now) c.args.id (g.R.Seated.room c.args.roster.now) c.requires.sound
      c.in_ok-live.ensures;
}

pub returns-clause-came : goal.returns-clause-came
returns-clause-came g c = grind (arith, common_steps)
