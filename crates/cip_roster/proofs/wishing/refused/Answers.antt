use Rattle.std.proofs.lemmas.Grind.{common_steps}
use Rattle.std.proofs.Common.{refl, arith}
use Rattle.cip_events.specs.declared.words.Word.TheVariants as say
use Rattle.cip_roster.proofs.Turning.{noted_behind, sound_more}
use Rattle.cip_roster.proofs.wishing.refused.Goals as goal

pub returns-clause-noted : goal.returns-clause-noted
returns-clause-noted g c =
    noted_behind (g.R.Seated.state c.args.roster.now) (g.R.Seated.state c.reserve_turns.new.self)
    (g.R.Seated.state c.note.new.self) c.args.id (say.Refused c.args.fault) refl c.requires.seat
    c.reserve_turns.ensures.state c.note.ensures.seats c.note.ensures.places c.note.ensures.names c.note.ensures.kept
    c.note.ensures.lines

pub returns-in_default-clause-noted : goal.returns-in_default-clause-noted
returns-in_default-clause-noted g c = tt

pub returns-in_default-clause-same : goal.returns-in_default-clause-same
returns-in_default-clause-same g c = c.reserve_turns.ensures.state

pub returns-in_default-clause-sound : goal.returns-in_default-clause-sound
returns-in_default-clause-sound g c =
    sound_more (g.R.Seated.state c.args.roster.now) (g.R.Seated.state c.reserve_turns.new.self)
    (g.R.Seated.room c.args.roster.now) (g.R.Seated.room c.reserve_turns.new.self) c.reserve_turns.ensures.state
    c.reserve_turns.ensures.grows c.reserve_turns.ensures.rankings c.requires.sound

pub returns-clause-same : goal.returns-clause-same
returns-clause-same g c = tt

pub returns-clause-sound : goal.returns-clause-sound
returns-clause-sound g c = grind (arith, common_steps)

pub note-requires : goal.note-requires
note-requires g c = grind (arith, common_steps)
