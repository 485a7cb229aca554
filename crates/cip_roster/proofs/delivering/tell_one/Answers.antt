use Rattle.cip_roster.proofs.Asked.{hearing_can}
use Rattle.std.proofs.Common.{sym, ◌∙◌, arith, refl}
use Rattle.cip_plugin.specs.Calls.{OnEvent}
use Rattle.cip_roster.proofs.Delivery.{ran_turn, ran_same}
use Rattle.cip_roster.proofs.OneEvent.{told_passed, told_wishes}
use Rattle.cip_roster.proofs.Turning.{turned_sound, turned_there, sound_more}
use Rattle.cip_roster.proofs.delivering.tell_one.Goals as goal

pub returns-then-not-is_to_hear-clause-told : goal.returns-then-not-is_to_hear-clause-told
returns-then-not-is_to_hear-clause-told g c =
    told_passed c.args.view.now.node c.args.event c.args.id (g.R.Seated.state c.args.roster.now) c.args.queue.now
    c.requires.seat (sym c.if-not-is_to_hear.ensures)

pub grant-granted-requires-clause-sound : goal.grant-granted-requires-clause-sound
grant-granted-requires-clause-sound g c =
    turned_sound c.args.id (OnEvent c.args.event) (g.R.Seated.state c.args.roster.now)
    (g.R.Seated.state c.reserve_turns.new.self) (g.R.Seated.state c.turn-given.new.roster) c.turn-given.result
    (g.R.Seated.room c.args.roster.now) (g.R.Seated.room c.reserve_turns.new.self)
    (g.R.Seated.room c.turn-given.new.roster) c.reserve_turns.ensures.state c.requires.sound c.turn-given.ensures.turn
    c.in-Ok.ensures.room c.turn-given.ensures.room (c.turn-given.ensures.rankings ∙ c.reserve_turns.ensures.rankings)

pub grant-granted-requires-clause-seat : goal.grant-granted-requires-clause-seat
grant-granted-requires-clause-seat g c =
    turned_there c.args.id c.args.id (OnEvent c.args.event) (g.R.Seated.state c.args.roster.now)
    (g.R.Seated.state c.reserve_turns.new.self) (g.R.Seated.state c.turn-given.new.roster) c.turn-given.result
    c.reserve_turns.ensures.state c.turn-given.ensures.turn c.requires.seat

pub returns-clause-told : goal.returns-clause-told
returns-clause-told g c =
    told_wishes c.args.view.now.node c.args.event c.args.id c.turn-given.result c.wishes_of.result.now
    (g.R.Seated.state c.args.roster.now) (g.R.Seated.state c.reserve_turns.new.self)
    (g.R.Seated.state c.turn-given.new.roster) (g.R.Seated.state c.grant-granted.new.roster) c.args.queue.now
    c.grant-granted.new.queue c.grant-granted.result c.reserve_turns.ensures.state c.requires.seat
    (sym c.if-not-is_to_hear.ensures) c.turn-given.ensures.turn c.wishes_of.ensures c.grant-granted.ensures.took

pub returns-clause-err : goal.returns-clause-err
returns-clause-err g c =
    ran_turn c.args.id (OnEvent c.args.event) (g.R.Seated.state c.args.roster.now)
    (g.R.Seated.state c.reserve_turns.new.self) (g.R.Seated.state c.turn-given.new.roster)
    (g.R.Seated.state c.grant-granted.new.roster) c.turn-given.result c.grant-granted.result
    c.reserve_turns.ensures.state c.turn-given.ensures.turn c.grant-granted.ensures.err

pub returns-clause-sound : goal.returns-clause-sound
returns-clause-sound g c = c.grant-granted.ensures.sound

pub returns-in_default-clause-told : goal.returns-in_default-clause-told
returns-in_default-clause-told g c = tt

pub returns-in_default-clause-err : goal.returns-in_default-clause-err
returns-in_default-clause-err g c =
    ran_same (g.R.Seated.state c.args.roster.now) (g.R.Seated.state c.reserve_turns.new.self) c.reserve_turns.ensures.state

pub returns-in_default-clause-sound : goal.returns-in_default-clause-sound
returns-in_default-clause-sound g c =
    sound_more (g.R.Seated.state c.args.roster.now) (g.R.Seated.state c.reserve_turns.new.self)
    (g.R.Seated.room c.args.roster.now) (g.R.Seated.room c.reserve_turns.new.self) c.reserve_turns.ensures.state
    c.reserve_turns.ensures.grows c.reserve_turns.ensures.rankings c.requires.sound

pub turn-given-requires-clause-room : goal.turn-given-requires-clause-room
turn-given-requires-clause-room g c = omega (arith, c.in-Ok.ensures.room)

pub returns-then-not-is_to_hear-clause-sound : goal.returns-then-not-is_to_hear-clause-sound
returns-then-not-is_to_hear-clause-sound g c = c.requires.sound

pub returns-then-not-is_to_hear-clause-err : goal.returns-then-not-is_to_hear-clause-err
returns-then-not-is_to_hear-clause-err g c = tt

pub turn-given-requires-clause-ready : goal.turn-given-requires-clause-ready
turn-given-requires-clause-ready g c =
    hearing_can c.args.event c.args.id (g.R.Seated.state c.args.roster.now)
    (g.R.Seated.state c.reserve_turns.new.self) _ refl
    (sym c.if-not-is_to_hear.ensures) c.reserve_turns.ensures.state
