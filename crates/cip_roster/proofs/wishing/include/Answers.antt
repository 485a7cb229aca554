use Rattle.std.proofs.lemmas.Grind.{common_steps}
use Rattle.std.proofs.Common.{ℕ, ◌∙◌, ap, length, subst, sym, append-nil, inl, refl, arith}
use Rattle.std.specs.Prelude.{slice_get}
use Rattle.cip_plugin.specs.declared.proposals.Wish.TheVariants.{Include}
use Rattle.cip_plugin.specs.Seats.{State, live_count}
use Rattle.cip_plugin.specs.declared.stages.Stage.TheVariants as stages
use Rattle.cip_plugin.specs.Steps.{Runs}
use Rattle.cip_plugin.specs.Wishing.{Granted, begins, place_fault}
use Rattle.cip_roster.specs.Turns.{StandsAt}
use Rattle.cip_roster.proofs.Sounding.{sound_included}
use Rattle.cip_roster.proofs.Wishes.{included_once}
use Rattle.cip_roster.proofs.Turning.{sound_more}
use Rattle.cip_roster.proofs.wishing.include.Goals as goal

pub returns-in_err-holds-clause-sound : goal.returns-in_err-holds-clause-sound
returns-in_err-holds-clause-sound g c = c.requires.sound

pub returns-in_default-clause-sound : goal.returns-in_default-clause-sound
returns-in_default-clause-sound g c =
    sound_more (g.R.Seated.state c.args.roster.now) (g.R.Seated.state c.reserve_seat.new.self)
    (g.R.Seated.room c.args.roster.now) (g.R.Seated.room c.reserve_seat.new.self) c.reserve_seat.ensures.state
    c.reserve_seat.ensures.grows c.reserve_seat.ensures.rankings c.requires.sound

pub returns-in_default-push-clause-sound : goal.returns-in_default-push-clause-sound
returns-in_default-push-clause-sound g c =
    sound_more (g.R.Seated.state c.args.roster.now) (g.R.Seated.state c.reserve_seat.new.self)
    (g.R.Seated.room c.args.roster.now) (g.R.Seated.room c.reserve_seat.new.self) c.reserve_seat.ensures.state
    c.reserve_seat.ensures.grows c.reserve_seat.ensures.rankings c.requires.sound

pub come-requires-clause-held : goal.come-requires-clause-held
come-requires-clause-held g c =
    ap (λ (s : State). place_fault (slice_get s.places c.args.place)) c.reserve_seat.ensures.state
    ∙ c.in_ok-holds.ensures

pub come-requires-clause-seat : goal.come-requires-clause-seat
come-requires-clause-seat g c = c.in-Ok.ensures.seat

pub begin-requires-clause-at : goal.begin-requires-clause-at
begin-requires-clause-at g c =
    subst (λ (n : ℕ). StandsAt stages.Fresh (g.R.Seated.state c.come.new.self) n)
    (ap (λ (s : State). length s.seats) c.reserve_seat.ensures.state ∙ sym c.count-id.ensures) c.come.ensures.at

pub begin-requires-clause-room : goal.begin-requires-clause-room
begin-requires-clause-room g c = omega (arith, c.in-Ok.ensures.room, c.come.ensures.room)

pub returns-clause-sound : goal.returns-clause-sound
returns-clause-sound g c =
    let answered = c.begin.ensures.run.0 in
    let same = c.count-id.ensures ∙ ap (λ (s : State). length s.seats) (sym c.reserve_seat.ensures.state) in
    let live = ap (λ (s : State). live_count s.seats) c.reserve_seat.ensures.state in
    sound_included c.args.place answered.0 answered.1 (g.R.Seated.state c.reserve_seat.new.self)
    (g.R.Seated.state c.come.new.self) (g.R.Seated.state c.begin.new.roster) (g.R.Seated.room c.reserve_seat.new.self)
    (g.R.Seated.room c.begin.new.roster) c.come.ensures.run
    (subst (λ (n : ℕ). Runs (g.R.Seated.state c.come.new.self) (begins n answered.0 answered.1)
    (g.R.Seated.state c.begin.new.roster)) same c.begin.ensures.run.1)
    (sound_more (g.R.Seated.state c.args.roster.now) (g.R.Seated.state c.reserve_seat.new.self)
    (g.R.Seated.room c.args.roster.now) (g.R.Seated.room c.reserve_seat.new.self) c.reserve_seat.ensures.state
    c.reserve_seat.ensures.grows c.reserve_seat.ensures.rankings c.requires.sound)
    (subst (λ (n : ℕ). StandsAt stages.Playing (g.R.Seated.state c.begin.new.roster) n) same c.begin.ensures.at)
    (omega (arith, live, c.in-Ok.ensures.room, c.come.ensures.room, c.begin.ensures.room))
    (c.begin.ensures.rankings ∙ c.come.ensures.rankings)

pub returns-clause-came : goal.returns-clause-came
returns-clause-came g c =
    let answered = c.begin.ensures.run.0 in
    let same = c.count-id.ensures ∙ ap (λ (s : State). length s.seats) (sym c.reserve_seat.ensures.state) in
    record {
      granted = subst (λ (s : State). Granted (Include c.args.place) s (g.R.Seated.state c.begin.new.roster))
          c.reserve_seat.ensures.state
          (included_once (g.R.Seated.state c.reserve_seat.new.self) (g.R.Seated.state c.come.new.self)
          (g.R.Seated.state c.begin.new.roster) c.args.place answered.0 answered.1 c.come.ensures.run
          (subst (λ (n : ℕ). Runs (g.R.Seated.state c.come.new.self) (begins n answered.0 answered.1)
          (g.R.Seated.state c.begin.new.roster)) same c.begin.ensures.run.1));
      fine = c.in_ok-holds.ensures;
    }

pub returns-in_default-clause-came : goal.returns-in_default-clause-came
returns-in_default-clause-came g c = record { cause = inl refl; same = c.reserve_seat.ensures.state }

pub returns-in_default-clause-queue : goal.returns-in_default-clause-queue
returns-in_default-clause-queue g c = sym (append-nil c.args.queue.now)

pub returns-in_default-push-clause-came : goal.returns-in_default-push-clause-came
returns-in_default-push-clause-came g c = record { cause = inl refl; same = c.reserve_seat.ensures.state }

pub returns-clause-queue : goal.returns-clause-queue
returns-clause-queue g c = grind (arith, common_steps)

pub returns-in_default-push-clause-queue : goal.returns-in_default-push-clause-queue
returns-in_default-push-clause-queue g c = grind (arith, common_steps)

pub returns-in_err-holds-clause-queue : goal.returns-in_err-holds-clause-queue
returns-in_err-holds-clause-queue g c = grind (arith, common_steps)

pub overflow_cast-id : goal.overflow_cast-id
overflow_cast-id g c = grind (arith, common_steps)
