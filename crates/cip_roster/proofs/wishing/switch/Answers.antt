use Rattle.std.proofs.lemmas.Grind.{common_steps}
use Rattle.std.proofs.Common.{true, ◌∙◌, [], ◌∷◌, ap, cond, inl, inr, refl, arith, subst, sym}
use Rattle.std.specs.Prelude.{slice_get}
use Rattle.cip_plugin.specs.declared.proposals.Wish.TheVariants.{Disable, Enable}
use Rattle.cip_plugin.specs.declared.stages.Stage.TheVariants as stages
use Rattle.cip_plugin.specs.Seats.{State, live_count}
use Rattle.cip_plugin.specs.Steps.{Runs, Turns}
use Rattle.cip_plugin.specs.Wishing.{Granted, is_enabled}
use Rattle.cip_roster.specs.Turns.{StandsAt}
use Rattle.cip_roster.proofs.Sounding.{sound_still}
use Rattle.cip_roster.proofs.Turning.{sound_more}
use Rattle.cip_roster.proofs.Wishes.{fault_switched, fine_live, live_plays, other_way, same_way, switched_none, switched_once}
use Rattle.cip_roster.proofs.wishing.switch.Goals as goal

pub returns-clause-sound : goal.returns-clause-sound
returns-clause-sound g c =
    let live = ap (λ (s : State). live_count s.seats) c.reserve_turns.ensures.state in
    sound_still c.args.id (Turns c.args.id c.args.on) (g.R.Seated.state c.reserve_turns.new.self)
    (g.R.Seated.state c.switch.new.self) (g.R.Seated.room c.reserve_turns.new.self) (g.R.Seated.room c.switch.new.self) refl
    refl c.switch.ensures.run
    (sound_more (g.R.Seated.state c.args.roster.now) (g.R.Seated.state c.reserve_turns.new.self)
    (g.R.Seated.room c.args.roster.now) (g.R.Seated.room c.reserve_turns.new.self) c.reserve_turns.ensures.state
    c.reserve_turns.ensures.grows c.reserve_turns.ensures.rankings c.requires.sound)
    c.switch.ensures.at (omega (arith, live, c.in-Ok-reserve_turns.ensures.room, c.switch.ensures.room))
    c.switch.ensures.rankings

pub returns-then-is_enabled-on-clause-sound : goal.returns-then-is_enabled-on-clause-sound
returns-then-is_enabled-on-clause-sound g c =
    sound_more (g.R.Seated.state c.args.roster.now) (g.R.Seated.state c.reserve_turns.new.self)
    (g.R.Seated.room c.args.roster.now) (g.R.Seated.room c.reserve_turns.new.self) c.reserve_turns.ensures.state
    c.reserve_turns.ensures.grows c.reserve_turns.ensures.rankings c.requires.sound

pub returns-then-is_enabled-on-clause-came : goal.returns-then-is_enabled-on-clause-came
returns-then-is_enabled-on-clause-came g c = record {
  granted = subst (λ (s : State). Granted (cond c.args.on (Enable c.args.id) (Disable c.args.id))
      (g.R.Seated.state c.args.roster.now) s)
      (sym c.reserve_turns.ensures.state) (switched_none (g.R.Seated.state c.args.roster.now) c.args.id c.args.on
      (ap (λ (s : State). is_enabled (slice_get s.seats c.args.id)) (sym c.reserve_turns.ensures.state)
      ∙ sym c.is_enabled.ensures ∙ same_way c.is_enabled.result c.args.on c.if-is_enabled-on.true));
  fine = fault_switched (g.R.Seated.state c.args.roster.now) c.args.id c.args.on
      ∙ fine_live (g.R.Seated.state c.args.roster.now) c.args.id c.in-Ok.ensures;
}

pub returns-in-Err-clause-came : goal.returns-in-Err-clause-came
returns-in-Err-clause-came g c = record {
  cause = inr (fault_switched (g.R.Seated.state c.args.roster.now) c.args.id c.args.on ∙ c.in-Err.ensures);
  same = refl;
}

pub returns-in_default-clause-came : goal.returns-in_default-clause-came
returns-in_default-clause-came g c = record {
  cause = inl refl;
  same = c.reserve_turns.ensures.state;
}

pub switch-requires-clause-at : goal.switch-requires-clause-at
switch-requires-clause-at g c =
    subst (λ (s : State). StandsAt stages.Playing s c.args.id) (sym c.reserve_turns.ensures.state)
    (live_plays (g.R.Seated.state c.args.roster.now) c.args.id (g.R.Seated.room c.args.roster.now) c.requires.sound
    c.in-Ok.ensures)

pub switch-requires-clause-other : goal.switch-requires-clause-other
switch-requires-clause-other g c =
    sym c.is_enabled.ensures ∙ other_way c.is_enabled.result c.args.on c.if-is_enabled-on.false

pub switch-requires-clause-room : goal.switch-requires-clause-room
switch-requires-clause-room g c = omega (arith, c.in-Ok-reserve_turns.ensures.room)

pub returns-clause-came : goal.returns-clause-came
returns-clause-came g c = record {
  granted = switched_once (g.R.Seated.state c.args.roster.now) (g.R.Seated.state c.switch.new.self) c.args.id c.args.on
      (ap (λ (s : State). is_enabled (slice_get s.seats c.args.id)) (sym c.reserve_turns.ensures.state)
      ∙ sym c.is_enabled.ensures ∙ other_way c.is_enabled.result c.args.on c.if-is_enabled-on.false)
      (subst (λ (s : State). Runs s (Turns c.args.id c.args.on ∷ []) (g.R.Seated.state c.switch.new.self))
      c.reserve_turns.ensures.state c.switch.ensures.run);
  fine = fault_switched (g.R.Seated.state c.args.roster.now) c.args.id c.args.on
      ∙ fine_live (g.R.Seated.state c.args.roster.now) c.args.id c.in-Ok.ensures;
}

pub returns-in_default-clause-sound : goal.returns-in_default-clause-sound
returns-in_default-clause-sound g c = grind (arith, common_steps)

pub returns-in-Err-clause-sound : goal.returns-in-Err-clause-sound
returns-in-Err-clause-sound g c = grind (arith, common_steps)
