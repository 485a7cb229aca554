use Rattle.std.proofs.lemmas.Grind.{common_steps}
use Rattle.std.proofs.Common.{[], ◌∷◌, arith, ◌∙◌}
use Rattle.cip_plugin.specs.Answers.{answer}
use Rattle.cip_plugin.specs.Asking.{answer_of, ask_of}
use Rattle.cip_plugin.specs.Calls.{Asked}
use Rattle.cip_plugin.specs.Steps.{Calls}
use Rattle.cip_roster.proofs.Turning.{asked_there, turn_given, turn_none}
use Rattle.cip_roster.proofs.turns.turn.Goals as goal

pub note_unless-requires-clause-seat : goal.note_unless-requires-clause-seat
note_unless-requires-clause-seat g c =
    asked_there (g.R.Seated.state c.args.roster.now) (g.R.Seated.state c.ask.new.self) (ask_of c.args.question) c.args.id
    (Calls c.args.id (Asked (ask_of c.args.question) (answer c.ask.result answer_of)) ∷ []) c.requires.ready
    c.ask.ensures.run

pub note_unless-requires-clause-room : goal.note_unless-requires-clause-room
note_unless-requires-clause-room g c = omega (arith, c.requires.room, c.ask.ensures.room)

pub returns-in-Ok-clause-turn : goal.returns-in-Ok-clause-turn
returns-in-Ok-clause-turn g c =
    turn_given (g.R.Seated.state c.args.roster.now) (g.R.Seated.state c.ask.new.self)
    (g.R.Seated.state c.note_unless.new.roster) c.args.id c.cut_short-past.result (ask_of c.args.question)
    c.in-Ok.given c.cut_short-past.new.self c.cut_short-past.ensures.past c.cut_short-past.ensures.first
    c.in-Ok.ensures.run c.note_unless.ensures.run

pub returns-in-Ok-clause-room : goal.returns-in-Ok-clause-room
returns-in-Ok-clause-room g c = omega (arith, c.ask.ensures.room, c.note_unless.ensures.room)

pub returns-in-Ok-clause-rankings : goal.returns-in-Ok-clause-rankings
returns-in-Ok-clause-rankings g c = c.note_unless.ensures.rankings ∙ c.ask.ensures.rankings

pub note_unless-requires-in-Err-clause-seat : goal.note_unless-requires-in-Err-clause-seat
note_unless-requires-in-Err-clause-seat g c =
    asked_there (g.R.Seated.state c.args.roster.now) (g.R.Seated.state c.ask.new.self) (ask_of c.args.question) c.args.id
    (Calls c.args.id (Asked (ask_of c.args.question) (answer c.ask.result answer_of)) ∷ []) c.requires.ready
    c.ask.ensures.run

pub note_unless-requires-in-Err-clause-room : goal.note_unless-requires-in-Err-clause-room
note_unless-requires-in-Err-clause-room g c = omega (arith, c.requires.room, c.ask.ensures.room)

pub returns-in-Err-clause-turn : goal.returns-in-Err-clause-turn
returns-in-Err-clause-turn g c =
    turn_none (g.R.Seated.state c.args.roster.now) (g.R.Seated.state c.ask.new.self)
    (g.R.Seated.state c.note_unless-in-Err.new.roster) c.args.id (ask_of c.args.question) c.in-Err.ensures.run
    c.note_unless-in-Err.ensures.run

pub returns-in-Err-clause-room : goal.returns-in-Err-clause-room
returns-in-Err-clause-room g c = omega (arith, c.ask.ensures.room, c.note_unless-in-Err.ensures.room)

pub returns-in-Err-clause-rankings : goal.returns-in-Err-clause-rankings
returns-in-Err-clause-rankings g c = c.note_unless-in-Err.ensures.rankings ∙ c.ask.ensures.rankings

pub ask-requires-clause-ready : goal.ask-requires-clause-ready
ask-requires-clause-ready g c = grind (arith, common_steps)

pub ask-requires-clause-room : goal.ask-requires-clause-room
ask-requires-clause-room g c = grind (arith, common_steps)
